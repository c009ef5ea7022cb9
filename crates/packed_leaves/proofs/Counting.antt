-- Items that are a function of each of some numbers, after their number.
use Rattle.std.proofs.Common.{◌≡◌, ℕ, ◌*◌, ◌/◌, ◌<◌, ◌≤◌, List, ◌++◌, length, take, drop, map, sym, ap, ◌∙◌, arith}
use Rattle.std.proofs.lemmas.List.{length-map, take-map}
use Rattle.std.specs.Prelude.{nat_lt, min, if◌then◌else◌, Bool, false}
use Rattle.std.proofs.lemmas.Bool.{le-ltb}
use Rattle.packed_encodings.specs.Lengths.{Bits, all_bits, Counted}
use Rattle.packed_counts.specs.Counts.{items_next, count_bits, Adds}
use Rattle.packed_leaves.specs.proving.Counting.{drop-map, AtOnce, Part, all_at_once, first_part}

-- items that are a function of octets
pub mapped_at_once : (once : AtOnce) (f : ℕ → Bits) (o : List ℕ) (a b d : Bits) → length o < 16384 → b ≡ a ++ count_bits (length o) → d ≡ b ++ all_bits (map f o) → Adds (Counted (map f o)) a d
mapped_at_once once f o a b d l e g = all_at_once once (map f o) (length o) a b d (sym (length-map o f)) l e g

pub mapped_part : (part : Part) (f : ℕ → Bits) (o x y : List ℕ) (m : ℕ) (a b d g : Bits) → 16384 ≤ length o → m ≡ items_next (length o) → x ≡ take m o → y ≡ drop m o → b ≡ a ++ count_bits (length o) → d ≡ b ++ all_bits (map f x) → Adds (Counted (map f y)) d g → Adds (Counted (map f o)) a g
mapped_part part f o x y m a b d g h em ex ey eb ed r =
    first_part part (map f o) (map f x) (map f y) (length o) m a b d g (sym (length-map o f)) h em
    (ap (map f) ex ∙ sym (take-map f m o)) (ap (map f) ey ∙ sym (drop-map f m o)) eb ed r

-- a fragment is whole octets
if_false : {X : Type 0} (b : Bool) (x y : X) → b ≡ false → (if b then x else y) ≡ y
if_false b x y e = ap (λ t. if t then x else y) e

pub next_is : (n : ℕ) → 16384 ≤ n → items_next n ≡ 16384 * min 4 (n / 16384)
next_is n h = if_false (nat_lt n 16384) n (16384 * min 4 (n / 16384)) (le-ltb n 16384 h)

pub whole_octets : (n m : ℕ) → 16384 ≤ n → m ≡ items_next n → 8 * (m / 8) ≡ m
whole_octets n m h e = let f = next_is n h in omega (arith, e, f)
