-- The first bits of octets.
use Rattle.std.proofs.Common.{arith, ◌≡◌, ℕ, zero, suc, ◌+◌, ◌-◌, ◌*◌, ◌/◌, ◌%◌, ◌^◌, ◌<◌, ◌≤◌, Bool, List, [], ◌∷◌, ◌++◌, length, refl, sym, ap, ◌∙◌, take, drop, append_assoc}
use Rattle.std.specs.Prelude.{◌==◌, flat_map, slice_index}
use Rattle.std.specs.Int.Digits.{AllBelowBase}
use Rattle.std.proofs.lemmas.List.{take_at, take-append-le, length-map, drop-take, length-take-le, take-map}
use Rattle.std.proofs.Math.Seq.{take-append-add}
use Rattle.asn_base.specs.Abstract.{bits_of_octet}
use Rattle.bits.specs.Words.{low_bits, octet_bits}
use Rattle.packed_encodings.specs.proving.Words.{word_length, word_split}
use Rattle.packed_encodings.specs.Lengths.{Bits, all_bits, Counted}
use Rattle.packed_encodings.specs.Leaves.{singly}
use Rattle.packed_counts.specs.Counts.{items_next, count_bits, Adds}
use Rattle.packed_leaves.proofs.Counting.{whole_octets}
use Rattle.packed_leaves.specs.proving.Counting.{AtOnce, Part, all_at_once, first_part}

-- the high bits of an octet
pub high_bits : (r n : ℕ) → r ≤ 8 → low_bits r (n / 2 ^ (8 - r)) ≡ take r (low_bits 8 n)
high_bits r n h =
    let e : r + (8 - r) ≡ 8 = omega (arith, h) in
    sym (take_at (low_bits r (n / 2 ^ (8 - r))) (low_bits (8 - r) n) r (word_length r (n / 2 ^ (8 - r)))) ∙ ap (take r) (sym (word_split r (8 - r) 8 n e))

octet_first : (n : ℕ) → n < 256 → n / 128 ≡ n / 128 % 2
octet_first n h = omega arith

octet_last : (n : ℕ) → n ≡ n / 1
octet_last n = omega arith

octet_same : (n : ℕ) → n < 256 → bits_of_octet n ≡ low_bits 8 n
octet_same n h =
    ap (λ q. (q == 1) ∷ (n / 64 % 2 == 1) ∷ (n / 32 % 2 == 1) ∷ (n / 16 % 2 == 1) ∷ (n / 8 % 2 == 1) ∷ (n / 4 % 2 == 1) ∷ (n / 2 % 2 == 1) ∷ (n % 2 == 1) ∷ []) (octet_first n h)
    ∙ ap (λ q. (n / 128 % 2 == 1) ∷ (n / 64 % 2 == 1) ∷ (n / 32 % 2 == 1) ∷ (n / 16 % 2 == 1) ∷ (n / 8 % 2 == 1) ∷ (n / 4 % 2 == 1) ∷ (n / 2 % 2 == 1) ∷ (q % 2 == 1) ∷ []) (octet_last n)

pub octets_same : (o : List ℕ) → AllBelowBase 256 o → flat_map bits_of_octet o ≡ octet_bits o
octets_same [] h = refl
octets_same (n ∷ o) h = ap (λ q. q ++ flat_map bits_of_octet o) (octet_same n h.0) ∙ ap (λ q. low_bits 8 n ++ q) (octets_same o h.1)

pub bits_long : (o : List ℕ) → length (octet_bits o) ≡ 8 * length o
bits_long [] = refl
bits_long (n ∷ o) = let r = bits_long o in omega (arith, r)

take_more : (n : ℕ) (xs ys : Bits) (k m : ℕ) → length xs ≡ k → m ≡ k + n → take m (xs ++ ys) ≡ xs ++ take n ys
take_more n xs ys k m e f = ap (λ q. take q (xs ++ ys)) (f ∙ ap (λ q. q + n) (sym e)) ∙ take-append-add xs ys n

drop_more : (n : ℕ) (xs ys : Bits) → drop (length xs + n) (xs ++ ys) ≡ drop n ys
drop_more n [] ys = ap (λ q. drop q ys) (let c : 0 + n ≡ n = omega arith in c)
drop_more n (x ∷ xs) ys = ap (λ q. drop q (x ∷ (xs ++ ys))) (let c : suc (length xs) + n ≡ suc (length xs + n) = omega arith in c) ∙ drop_more n xs ys

drop_at : (n : ℕ) (xs ys : Bits) (k m : ℕ) → length xs ≡ k → m ≡ k + n → drop m (xs ++ ys) ≡ drop n ys
drop_at n xs ys k m e f = ap (λ q. drop q (xs ++ ys)) (f ∙ ap (λ q. q + n) (sym e)) ∙ drop_more n xs ys

take_none : (n : ℕ) → take {A = Bool} n [] ≡ []
take_none zero = refl
take_none (suc n) = refl

drop_none : (n : ℕ) → drop {A = Bool} n [] ≡ []
drop_none zero = refl
drop_none (suc n) = refl

-- whole octets
pub take_octets : (w : ℕ) (o : List ℕ) → take (8 * w) (octet_bits o) ≡ octet_bits (take w o)
take_octets zero o = refl
take_octets (suc w) [] = take_none (8 * suc w)
take_octets (suc w) (n ∷ o) = take_more (8 * w) (low_bits 8 n) (octet_bits o) 8 (8 * suc w) (word_length 8 n) (let c : 8 * suc w ≡ 8 + 8 * w = omega arith in c) ∙ ap (λ q. low_bits 8 n ++ q) (take_octets w o)

pub drop_octets : (w : ℕ) (o : List ℕ) → drop (8 * w) (octet_bits o) ≡ octet_bits (drop w o)
drop_octets zero o = refl
drop_octets (suc w) [] = drop_none (8 * suc w)
drop_octets (suc w) (n ∷ o) = drop_at (8 * w) (low_bits 8 n) (octet_bits o) 8 (8 * suc w) (word_length 8 n) (let c : 8 * suc w ≡ 8 + 8 * w = omega arith in c) ∙ drop_octets w o

-- whole octets, and bits of the next one
pub take_rest : (w r : ℕ) (o : List ℕ) → r ≤ 8 → w < length o → take (8 * w + r) (octet_bits o) ≡ octet_bits (take w o) ++ take r (low_bits 8 (slice_index o w))
take_rest w r [] h l = absurd (omega (arith, l))
take_rest zero r (n ∷ o) h l = ap (λ q. take q (low_bits 8 n ++ octet_bits o)) (let c : 8 * 0 + r ≡ r = omega arith in c) ∙ take-append-le r (low_bits 8 n) (octet_bits o) (let e = word_length 8 n in omega (arith, e, h))
take_rest (suc w) r (n ∷ o) h l =
    take_more (8 * w + r) (low_bits 8 n) (octet_bits o) 8 (8 * suc w + r) (word_length 8 n) (let c : 8 * suc w + r ≡ 8 + (8 * w + r) = omega arith in c)
    ∙ ap (λ q. low_bits 8 n ++ q) (take_rest w r o h (omega (arith, l)))
    ∙ sym (append_assoc (low_bits 8 n) (octet_bits (take w o)) (take r (low_bits 8 (slice_index o w))))

pub whole_only : (n : ℕ) (o : List ℕ) → n % 8 ≡ 0 → take n (octet_bits o) ≡ octet_bits (take (n / 8) o)
whole_only n o h = ap (λ q. take q (octet_bits o)) (let c : n ≡ 8 * (n / 8) = omega (arith, h) in c) ∙ take_octets (n / 8) o

pub with_rest : (n : ℕ) (o : List ℕ) → n / 8 < length o → take n (octet_bits o) ≡ octet_bits (take (n / 8) o) ++ take (n % 8) (low_bits 8 (slice_index o (n / 8)))
with_rest n o l = ap (λ q. take q (octet_bits o)) (let c : n ≡ 8 * (n / 8) + n % 8 = omega arith in c) ∙ take_rest (n / 8) (n % 8) o (omega arith) l

-- ---- bits one by one

pub singly_all : (v : Bits) → all_bits (singly v) ≡ v
singly_all [] = refl
singly_all (b ∷ v) = ap (λ q. b ∷ q) (singly_all v)

drop_singly : (n : ℕ) (v : Bits) → drop n (singly v) ≡ singly (drop n v)
drop_singly zero v = refl
drop_singly (suc n) [] = refl
drop_singly (suc n) (b ∷ v) = drop_singly n v

take_take : (m n : ℕ) (v : Bits) → m ≤ n → take m (take n v) ≡ take m v
take_take zero n v h = refl
take_take (suc m) zero v h = absurd (omega (arith, h))
take_take (suc m) (suc n) [] h = refl
take_take (suc m) (suc n) (b ∷ v) h = ap (λ q. b ∷ q) (take_take m n v (omega (arith, h)))

front_long : (n : ℕ) (o : List ℕ) → n ≤ 8 * length o → n ≡ length (singly (take n (octet_bits o)))
front_long n o h = sym (length-map (take n (octet_bits o)) (λ b. b ∷ []) ∙ length-take-le n (octet_bits o) (let e = bits_long o in omega (arith, e, h)))

pub front_at_once : (once : AtOnce) (n : ℕ) (o : List ℕ) (a b d : Bits) → n ≤ 8 * length o → n < 16384 → b ≡ a ++ count_bits n → d ≡ b ++ take n (octet_bits o) → Adds (Counted (singly (take n (octet_bits o)))) a d
front_at_once once n o a b d h l e f = all_at_once once (singly (take n (octet_bits o))) n a b d (front_long n o h) l e (f ∙ ap (λ q. b ++ q) (sym (singly_all (take n (octet_bits o)))))

pub front_part : (part : Part) (most : (n : ℕ) → items_next n ≤ n) (n m : ℕ) (o x y : List ℕ) (a b d f : Bits) → n ≤ 8 * length o → 16384 ≤ n → m ≡ items_next n → x ≡ take (m / 8) o → y ≡ drop (m / 8) o → b ≡ a ++ count_bits n → d ≡ b ++ octet_bits x → Adds (Counted (singly (take (n - m) (octet_bits y)))) d f → Adds (Counted (singly (take n (octet_bits o)))) a f
front_part part most n m o x y a b d f h l em ex ey eb ed r =
    let w : 8 * (m / 8) ≡ m = whole_octets n m l em in
    let k : m ≤ n = let q = most n in omega (arith, em, q) in
    let s : n ≡ m + (n - m) = omega (arith, k) in
    let ox : octet_bits x ≡ take m (octet_bits o) = ap octet_bits ex ∙ sym (take_octets (m / 8) o) ∙ ap (λ q. take q (octet_bits o)) w in
    let oy : octet_bits y ≡ drop m (octet_bits o) = ap octet_bits ey ∙ sym (drop_octets (m / 8) o) ∙ ap (λ q. drop q (octet_bits o)) w in
    let front : singly (octet_bits x) ≡ take m (singly (take n (octet_bits o)))
    = ap singly (ox ∙ sym (take_take m n (octet_bits o) k)) ∙ sym (take-map (λ b. b ∷ []) m (take n (octet_bits o))) in
    let back : singly (take (n - m) (octet_bits y)) ≡ drop m (singly (take n (octet_bits o)))
    = ap (λ q. singly (take (n - m) q)) oy ∙ ap singly (sym (drop-take m (n - m) (octet_bits o))) ∙ ap (λ q. singly (drop m (take q (octet_bits o)))) (sym s) ∙ sym (drop_singly m (take n (octet_bits o))) in
    first_part part (singly (take n (octet_bits o))) (singly (octet_bits x)) (singly (take (n - m) (octet_bits y))) n m a b d f (front_long n o h) l em front back eb (ed ∙ ap (λ q. b ++ q) (sym (singly_all (octet_bits x)))) r

-- ---- bits of values

octet_long : (o : List ℕ) → length (flat_map bits_of_octet o) ≡ 8 * length o
octet_long [] = refl
octet_long (n ∷ o) = let r = octet_long o in omega (arith, r)

pub bits_length : (o : List ℕ) (u : ℕ) → length (take (8 * length o - u) (flat_map bits_of_octet o)) ≡ 8 * length o - u
bits_length o u = length-take-le (8 * length o - u) (flat_map bits_of_octet o) (let e = octet_long o in omega (arith, e))

pub value_bits : (o : List ℕ) (n u : ℕ) → AllBelowBase 256 o → n ≡ 8 * length o - u → take n (octet_bits o) ≡ take (8 * length o - u) (flat_map bits_of_octet o)
value_bits o n u h e = ap (λ q. take q (octet_bits o)) e ∙ ap (take (8 * length o - u)) (sym (octets_same o h))
