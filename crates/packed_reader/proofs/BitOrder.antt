-- Bits that are compared by the numbers that they are.
use Rattle.std.proofs.Common.{arith, ◌≡◌, ℕ, ◌+◌, ◌^◌, ◌<◌, ◌≤◌, ⊎_elim, Bool, true, false, [], ◌∷◌, ◌++◌, length, length-append, refl, sym, ap, ◌∙◌}
use Rattle.std.specs.Prelude.{min, not, ◌&&◌, nat_lt}
use Rattle.std.proofs.lemmas.Bool.{lt-ltb, le-ltb, cases_lt}
use Rattle.std.proofs.lemmas.Nat.{pow_pos}
use Rattle.bits.specs.Words.{low_bits}
use Rattle.packed_encodings.specs.proving.Words.{word_length, worth_word, worth_below}
use Rattle.packed_encodings.specs.Lengths.{Bits, worth}
use Rattle.packed_reader.specs.Lists.{at_most}
use Rattle.packed_reader.specs.Structures.{all_clear}

-- ---- the order

as_long : (x y : Bits) → length x ≡ length y → 2 ^ length x ≡ 2 ^ length y
as_long x y l = ap (λ q. 2 ^ q) l

below : (x y p q : Bits) → length x ≡ length y → worth x < worth y → at_most (x ++ p) (y ++ q) ≡ true
below [] [] p q l h = absurd (omega (arith, h))
below [] (y ∷ ys) p q l h = absurd (omega (arith, l))
below (x ∷ xs) [] p q l h = absurd (omega (arith, l))
below (false ∷ xs) (true ∷ ys) p q l h = refl
below (true ∷ xs) (false ∷ ys) p q l h =
    let m : length xs ≡ length ys = omega (arith, l) in
    let e = as_long xs ys m in
    let g = worth_below ys in
    absurd (omega (arith, h, e, g))
below (false ∷ xs) (false ∷ ys) p q l h = below xs ys p q (omega (arith, l)) (omega (arith, h))
below (true ∷ xs) (true ∷ ys) p q l h =
    let m : length xs ≡ length ys = omega (arith, l) in
    let e = as_long xs ys m in
    below xs ys p q m (omega (arith, h, e))

above : (x y p q : Bits) → length x ≡ length y → worth y < worth x → at_most (x ++ p) (y ++ q) ≡ false
above [] [] p q l h = absurd (omega (arith, h))
above [] (y ∷ ys) p q l h = absurd (omega (arith, l))
above (x ∷ xs) [] p q l h = absurd (omega (arith, l))
above (true ∷ xs) (false ∷ ys) p q l h = refl
above (false ∷ xs) (true ∷ ys) p q l h =
    let m : length xs ≡ length ys = omega (arith, l) in
    let e = as_long xs ys m in
    let g = worth_below xs in
    absurd (omega (arith, h, e, g))
above (false ∷ xs) (false ∷ ys) p q l h = above xs ys p q (omega (arith, l)) (omega (arith, h))
above (true ∷ xs) (true ∷ ys) p q l h =
    let m : length xs ≡ length ys = omega (arith, l) in
    let e = as_long xs ys m in
    above xs ys p q m (omega (arith, h, e))

same_front : (x p q : Bits) → at_most (x ++ p) (x ++ q) ≡ at_most p q
same_front [] p q = refl
same_front (false ∷ xs) p q = same_front xs p q
same_front (true ∷ xs) p q = same_front xs p q

-- ---- numbers at the front

module _ (k m n : ℕ) (x y p q : Bits) (e : x ≡ low_bits k m ++ p) (f : y ≡ low_bits k n ++ q) where
  split : at_most x y ≡ at_most (low_bits k m ++ p) (low_bits k n ++ q)
  split = ap (λ z. at_most z y) e ∙ ap (λ z. at_most (low_bits k m ++ p) z) f

  equal_lengths : length (low_bits k m) ≡ length (low_bits k n)
  equal_lengths = word_length k m ∙ sym (word_length k n)

  -- bits that differ are in the order of their numbers
  pub numbers_apart : m < 2 ^ k → n < 2 ^ k → (m ≡ n → ⊥) → nat_lt m n ≡ at_most x y
  numbers_apart hm hn d = ⊎_elim
      (λ l. lt-ltb m n l ∙ sym (split ∙ below (low_bits k m) (low_bits k n) p q equal_lengths (in_order l)))
      (λ l. le-ltb m n l ∙ sym (split ∙ above (low_bits k m) (low_bits k n) p q equal_lengths (in_turn l)))
      (cases_lt m n)
    where
      in_order : m < n → worth (low_bits k m) < worth (low_bits k n)
      in_order l = let a = worth_word k m hm in let b = worth_word k n hn in omega (arith, a, b, l)

      in_turn : n ≤ m → worth (low_bits k n) < worth (low_bits k m)
      in_turn l = let a = worth_word k m hm in let b = worth_word k n hn in omega (arith, a, b, l, d)

  -- bits that are the same decide nothing
  pub numbers_same : m ≡ n → at_most p q ≡ at_most x y
  numbers_same s = sym (split ∙ ap (λ z. at_most (low_bits k z ++ p) (low_bits k n ++ q)) s ∙ same_front (low_bits k n) p q)

-- a number was taken, so fewer bits are left
pub fewer_left : (k m : ℕ) (x p : Bits) → x ≡ low_bits k m ++ p → (k ≡ 0 → ⊥) → length p < length x
fewer_left k m x p e h =
    let a = word_length k m in
    let b : length x ≡ length (low_bits k m) + length p = ap length e ∙ length-append (low_bits k m) p in
    omega (arith, a, b, h)

-- ---- zero bits

clear_front : (x p : Bits) → worth x ≡ 0 → all_clear (x ++ p) ≡ all_clear p
clear_front [] p e = refl
clear_front (true ∷ x) p e = let l = pow_pos (length x) in absurd (omega (arith, e, l))
clear_front (false ∷ x) p e = clear_front x p (let h : worth x ≡ 0 = omega (arith, e) in h)

set_front : (x p : Bits) → 0 < worth x → all_clear (x ++ p) ≡ false
set_front [] p l = absurd (omega (arith, l))
set_front (true ∷ x) p l = refl
set_front (false ∷ x) p l = set_front x p (let h : 0 < worth x = omega (arith, l) in h)

-- a number was taken of the front: 0, or another one
pub zeros_taken : (k m : ℕ) (x p : Bits) → x ≡ low_bits k m ++ p → m < 2 ^ k → m ≡ 0 → all_clear p ≡ all_clear x
zeros_taken k m x p e l z = sym (ap all_clear e ∙ clear_front (low_bits k m) p (worth_word k m l ∙ z))

pub ones_taken : (k m : ℕ) (x p : Bits) → x ≡ low_bits k m ++ p → m < 2 ^ k → (m ≡ 0 → ⊥) → false ≡ all_clear x
ones_taken k m x p e l z =
    let w = worth_word k m l in
    sym (ap all_clear e ∙ set_front (low_bits k m) p (let h : 0 < worth (low_bits k m) = omega (arith, w, z) in h))

-- some bits were taken, if there are some
pub some_taken : (a k m : ℕ) (x p : Bits) → x ≡ low_bits k m ++ p → 0 < a → k ≡ min a 64 → length p < length x
some_taken a k m x p e l h = fewer_left k m x p e (λ z. (let n : k ≡ 0 = z in absurd (omega (arith, n, h, l))))

-- no bits can be taken of both, since nothing is left of the second
none_of : (a b m n : ℕ) → m ≡ min a b → n ≡ min m 64 → 0 < a → n ≡ 0 → b ≡ 0
none_of a b m n e f l g = omega (arith, e, f, l, g)

all_clear_is : (x y : Bits) → length y ≡ 0 → all_clear x ≡ at_most x y
all_clear_is [] [] l = refl
all_clear_is (x ∷ xs) [] l = ap (λ q. not x && q) (all_clear_is xs [] l)
all_clear_is x (y ∷ ys) l = absurd (omega (arith, l))

pub second_ended : (x y : Bits) (w a b m n : ℕ) (q z : Bool) → w ≡ length x → 0 < w → a ≡ length x → b ≡ length y → m ≡ min a b → n ≡ min m 64 → n ≡ 0 → q ≡ all_clear x → at_most x y ≡ z → q ≡ z
second_ended x y w a b m n q z s t e f g h k i j =
    let l : 0 < a = omega (arith, s, t, e) in
    i ∙ all_clear_is x y (sym f ∙ none_of a b m n g h l k) ∙ j
