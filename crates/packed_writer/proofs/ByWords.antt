-- The order of bits, where they are compared 64 at once.
use Rattle.std.proofs.Common.{◌≡◌, ℕ, zero, suc, ◌+◌, ◌*◌, ◌/◌, ◌%◌, ◌^◌, ◌<◌, Bool, true, false, [], ◌∷◌, ◌++◌, List, drop, get_or, nat_lt, refl, sym, ap, subst, ◌∙◌, arith}
use Rattle.std.proofs.lemmas.Bool.{ltb-true, ltb-false}
use Rattle.std.proofs.lemmas.Nat.{mod-pow-add, pow_pos}
use Rattle.std.specs.Prelude.{◌||◌, ◌==◌, replicate}
use Rattle.bits.specs.Words.{low_bits, word_bits}
use Rattle.bits.specs.Packed.{Fills}
use Rattle.packed_encodings.specs.Computed.{is_below}
use Rattle.packed_encodings.specs.Lengths.{Bits}
use Rattle.packed_writer.proofs.Below.{at_first, none_below, not_true}

-- ---- zeros at the end change nothing

zeros_left : (ys : Bits) (n : ℕ) → is_below (replicate n false) ys ≡ is_below [] ys
zeros_left ys zero = refl
zeros_left [] (suc n) = refl
zeros_left (y ∷ ys) (suc n) = by y (is_below (replicate n false) ys) ∙ ap (λ q. y || q) (zeros_left ys n)
  where
    by : (b r : Bool) → at_first false b r ≡ (b || r)
    by true r = refl
    by false r = refl

pub filled_left : (xs ys : Bits) (n : ℕ) → is_below (xs ++ replicate n false) ys ≡ is_below xs ys
filled_left [] ys n = zeros_left ys n
filled_left (x ∷ xs) [] n = refl
filled_left (x ∷ xs) (y ∷ ys) n = ap (at_first x y) (filled_left xs ys n)

zeros_right : (xs : Bits) (n : ℕ) → is_below xs (replicate n false) ≡ false
zeros_right xs zero = none_below xs
zeros_right [] (suc n) = zeros_right [] n
zeros_right (true ∷ xs) (suc n) = refl
zeros_right (false ∷ xs) (suc n) = zeros_right xs n

pub filled_right : (xs ys : Bits) (n : ℕ) → is_below xs (ys ++ replicate n false) ≡ is_below xs ys
filled_right xs [] n = zeros_right xs n ∙ sym (none_below xs)
filled_right [] (y ∷ ys) n = ap (λ q. y || q) (filled_right [] ys n)
filled_right (x ∷ xs) (y ∷ ys) n = ap (at_first x y) (filled_right xs ys n)

pub by_words : (x y : Bits) (u v : List ℕ) → Fills x u → Fills y v → is_below (word_bits u) (word_bits v) ≡ is_below x y
by_words x y u v f g =
    ap (λ q. is_below q (word_bits v)) f.joined ∙ filled_left x (word_bits v) f.zeros
    ∙ ap (is_below x) g.joined ∙ filled_right x y g.zeros

-- ---- a low_bits decides, unless it is in both

pub one_way : (x y : Bits) → is_below x y ≡ true → is_below y x ≡ false
one_way [] y e = none_below y
one_way (x ∷ xs) [] e = not_true e
one_way (true ∷ xs) (true ∷ ys) e = one_way xs ys e
one_way (false ∷ xs) (false ∷ ys) e = one_way xs ys e
one_way (false ∷ xs) (true ∷ ys) e = refl
one_way (true ∷ xs) (false ∷ ys) e = not_true e

same_bit : (x r : Bool) → at_first x x r ≡ r
same_bit true r = refl
same_bit false r = refl

pub same_word : (k n : ℕ) (xs ys : Bits) → is_below (low_bits k n ++ xs) (low_bits k n ++ ys) ≡ is_below xs ys
same_word zero n xs ys = refl
same_word (suc k) n xs ys = same_bit (n / 2 ^ k % 2 == 1) (is_below (low_bits k n ++ xs) (low_bits k n ++ ys)) ∙ same_word k n xs ys

-- a number is smaller if its first bit is, or if the bits are the same and the rest is smaller
first_bit : (a b p r s : ℕ) → a < 2 → b < 2 → r < p → s < p → a * p + r < b * p + s → (rest : Bool) → (r < s → rest ≡ true) → at_first (a == 1) (b == 1) rest ≡ true
first_bit zero zero p r s ha hb hr hs h rest e = e (omega (arith, h))
first_bit zero (suc zero) p r s ha hb hr hs h rest e = refl
first_bit (suc zero) zero p r s ha hb hr hs h rest e = absurd (omega (arith, h, hs))
first_bit (suc zero) (suc zero) p r s ha hb hr hs h rest e = e (omega (arith, h))
first_bit (suc (suc a)) b p r s ha hb hr hs h rest e = absurd (omega (arith, ha))
first_bit a (suc (suc b)) p r s ha hb hr hs h rest e = absurd (omega (arith, hb))

low : (k n : ℕ) → n % 2 ^ suc k ≡ (n / 2 ^ k % 2) * 2 ^ k + n % 2 ^ k
low k n = let e : suc k ≡ 1 + k = omega arith in ap (λ q. n % 2 ^ q) e ∙ mod-pow-add n 1 k

pub less_word : (k a b : ℕ) (xs ys : Bits) → a % 2 ^ k < b % 2 ^ k → is_below (low_bits k a ++ xs) (low_bits k b ++ ys) ≡ true
less_word zero a b xs ys h = absurd (omega (arith, h))
less_word (suc k) a b xs ys h =
    let p : 0 < 2 ^ k = pow_pos k in
    let g : (a / 2 ^ k % 2) * 2 ^ k + a % 2 ^ k < (b / 2 ^ k % 2) * 2 ^ k + b % 2 ^ k = subst (λ q. q < (b / 2 ^ k % 2) * 2 ^ k + b % 2 ^ k) (low k a) (subst (λ q. a % 2 ^ suc k < q) (low k b) h) in
    first_bit (a / 2 ^ k % 2) (b / 2 ^ k % 2) (2 ^ k) (a % 2 ^ k) (b % 2 ^ k) (omega arith) (omega arith) (omega (arith, p)) (omega (arith, p)) g (is_below (low_bits k a ++ xs) (low_bits k b ++ ys)) (less_word k a b xs ys)

-- ---- the words at a place

drop_none : (i : ℕ) → drop {A = ℕ} i [] ≡ []
drop_none zero = refl
drop_none (suc i) = refl

-- from a place on, the words are that low_bits and the later ones, or else the low_bits is 0 and past the end
pub from_there : (ws : List ℕ) (i : ℕ) → (b : Bits) → (is_below (word_bits (drop i ws)) b ≡ is_below (low_bits 64 (get_or ws i 0) ++ word_bits (drop (suc i) ws)) b)
from_there [] zero b = sym (filled_left [] b 64) ∙ ap (λ q. is_below q b) (let e : [] ++ replicate 64 false ≡ low_bits 64 0 ++ [] = refl in e)
from_there [] (suc i) b = sym (filled_left [] b 64) ∙ ap (λ q. is_below q b) (let e : [] ++ replicate 64 false ≡ low_bits 64 0 ++ [] = refl in e)
from_there (w ∷ ws) zero b = refl
from_there (w ∷ ws) (suc i) b = from_there ws i b

pub from_there_right : (ws : List ℕ) (i : ℕ) → (b : Bits) → (is_below b (word_bits (drop i ws)) ≡ is_below b (low_bits 64 (get_or ws i 0) ++ word_bits (drop (suc i) ws)))
from_there_right [] zero b = sym (filled_right b [] 64) ∙ ap (is_below b) (let e : [] ++ replicate 64 false ≡ low_bits 64 0 ++ [] = refl in e)
from_there_right [] (suc i) b = sym (filled_right b [] 64) ∙ ap (is_below b) (let e : [] ++ replicate 64 false ≡ low_bits 64 0 ++ [] = refl in e)
from_there_right (w ∷ ws) zero b = refl
from_there_right (w ∷ ws) (suc i) b = from_there_right ws i b

both_there : (u v : List ℕ) (i a b : ℕ) → a ≡ get_or u i 0 → b ≡ get_or v i 0 → is_below (word_bits (drop i u)) (word_bits (drop i v)) ≡ is_below (low_bits 64 a ++ word_bits (drop (suc i) u)) (low_bits 64 b ++ word_bits (drop (suc i) v))
both_there u v i a b ea eb =
    from_there u i (word_bits (drop i v))
    ∙ from_there_right v i (low_bits 64 (get_or u i 0) ++ word_bits (drop (suc i) u))
    ∙ ap (λ q. is_below (low_bits 64 q ++ word_bits (drop (suc i) u)) (low_bits 64 (get_or v i 0) ++ word_bits (drop (suc i) v))) (sym ea)
    ∙ ap (λ q. is_below (low_bits 64 a ++ word_bits (drop (suc i) u)) (low_bits 64 q ++ word_bits (drop (suc i) v))) (sym eb)

pub words_same : (u v : List ℕ) (i a b : ℕ) → a ≡ get_or u i 0 → b ≡ get_or v i 0 → a ≡ b → is_below (word_bits (drop i u)) (word_bits (drop i v)) ≡ is_below (word_bits (drop (i + 1) u)) (word_bits (drop (i + 1) v))
words_same u v i a b ea eb e =
    both_there u v i a b ea eb
    ∙ ap (λ q. is_below (low_bits 64 a ++ word_bits (drop (suc i) u)) (low_bits 64 q ++ word_bits (drop (suc i) v))) (sym e)
    ∙ same_word 64 a (word_bits (drop (suc i) u)) (word_bits (drop (suc i) v))
    ∙ ap (λ q. is_below (word_bits (drop q u)) (word_bits (drop q v))) (let c : suc i ≡ i + 1 = omega arith in c)

smaller : (a b : ℕ) → a < 18446744073709551616 → b < 18446744073709551616 → a < b → a % 2 ^ 64 < b % 2 ^ 64
smaller a b ha hb h = omega (arith, ha, hb, h)

order_of : (a b : ℕ) (x y : Bits) → a < 18446744073709551616 → b < 18446744073709551616 → (a ≡ b → ⊥) → nat_lt a b ≡ is_below (low_bits 64 a ++ x) (low_bits 64 b ++ y)
order_of a b x y ha hb n = by (nat_lt a b) refl
  where
    by : (t : Bool) → nat_lt a b ≡ t → t ≡ is_below (low_bits 64 a ++ x) (low_bits 64 b ++ y)
    by true e = sym (less_word 64 a b x y (smaller a b ha hb (ltb-true a b e)))
    by false e = sym (one_way (low_bits 64 b ++ y) (low_bits 64 a ++ x) (less_word 64 b a y x (smaller b a hb ha (let m = ltb-false a b e in omega (arith, m, n)))))

pub words_decide : (u v : List ℕ) (i a b : ℕ) → a ≡ get_or u i 0 → b ≡ get_or v i 0 → a < 18446744073709551616 → b < 18446744073709551616 → (a ≡ b → ⊥) → nat_lt a b ≡ is_below (word_bits (drop i u)) (word_bits (drop i v))
words_decide u v i a b ea eb ha hb n =
    order_of a b (word_bits (drop (suc i) u)) (word_bits (drop (suc i) v)) ha hb n ∙ sym (both_there u v i a b ea eb)
