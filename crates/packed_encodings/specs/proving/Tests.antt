-- The tests of integers against bounds, and of numbers against a limit.
use Rattle.std.proofs.Common.{arith, ◌≡◌, ℕ, zero, suc, ℤ, pos, negsuc, ◌<◌, ◌≤◌, ◌⊎◌, inl, inr, ⊎_elim, Bool, true, false}
use Rattle.std.proofs.Common.{refl, List, [], ◌∷◌}
use Rattle.std.proofs.lemmas.Bool.{le-leb, leb-true, lt-ltb, ltb-true, false_from_ne_true}
use Rattle.std.proofs.lemmas.Int.{ints}
use Rattle.std.specs.List.{AllByRecursion}
use Rattle.std.specs.Prelude.{nat_lt, int_le, ◌&&◌, Option, Some, None, IfSome, ◌<ℤ◌, ◌≤ℤ◌}
use Rattle.asn_base.specs.Types.{Bounds}
use Rattle.packed_encodings.specs.Computed.{is_from, is_to, is_in_root, all_below}
use Rattle.packed_encodings.specs.Lengths.{IsInRootBounds}

pub lt_or_ge : (a b : ℕ) → (a < b) ⊎ (b ≤ a)
lt_or_ge a zero = inr (omega arith)
lt_or_ge zero (suc b) = inl (omega arith)
lt_or_ge (suc a) (suc b) = ⊎_elim (λ h. inl (omega arith)) (λ h. inr (omega arith)) (lt_or_ge a b)

pub le_or_gt : (a b : ℤ) → (a ≤ℤ b) ⊎ (b <ℤ a)
le_or_gt (pos a) (pos b) = ⊎_elim (λ h. inr (omega (arith, ints))) (λ h. inl (omega (arith, ints))) (lt_or_ge b a)
le_or_gt (pos a) (negsuc b) = inr (omega (arith, ints))
le_or_gt (negsuc a) (pos b) = inl (omega (arith, ints))
le_or_gt (negsuc a) (negsuc b) = ⊎_elim (λ h. inr (omega (arith, ints))) (λ h. inl (omega (arith, ints))) (lt_or_ge a b)

pub int_le_true : (a b : ℤ) → a ≤ℤ b → int_le a b ≡ true
int_le_true (pos a) (pos b) h = le-leb a b (omega (arith, ints))
int_le_true (pos a) (negsuc b) h = absurd (omega (arith, ints))
int_le_true (negsuc a) (pos b) h = refl
int_le_true (negsuc a) (negsuc b) h = le-leb b a (omega (arith, ints))

pub int_le_is : (a b : ℤ) → int_le a b ≡ true → a ≤ℤ b
int_le_is a b e = ⊎_elim (λ h. h) (λ h. absurd (by a b h e)) (le_or_gt a b)
  where
    by : (a b : ℤ) → b <ℤ a → int_le a b ≡ true → ⊥
    by (pos a) (pos b) h e = let k = leb-true a b e in omega (arith, ints)
    by (pos a) (negsuc b) h e = cc
    by (negsuc a) (pos b) h e = omega (arith, ints)
    by (negsuc a) (negsuc b) h e = let k = leb-true b a e in omega (arith, ints)

pub from_true : (o : Option ℤ) (v : ℤ) → IfSome o (λ l. l ≤ℤ v) → is_from o v ≡ true
from_true None v h = refl
from_true (Some l) v h = int_le_true l v h

pub from_is : (o : Option ℤ) (v : ℤ) → is_from o v ≡ true → IfSome o (λ l. l ≤ℤ v)
from_is None v e = tt
from_is (Some l) v e = int_le_is l v e

pub to_true : (o : Option ℤ) (v : ℤ) → IfSome o (λ g. v ≤ℤ g) → is_to o v ≡ true
to_true None v h = refl
to_true (Some g) v h = int_le_true v g h

pub to_is : (o : Option ℤ) (v : ℤ) → is_to o v ≡ true → IfSome o (λ g. v ≤ℤ g)
to_is None v e = tt
to_is (Some g) v e = int_le_is v g e

pub both_true : (a b : Bool) → a ≡ true → b ≡ true → (a && b) ≡ true
both_true true b e f = f
both_true false b e f = absurd (cc)

pub true_both : (a b : Bool) → (a && b) ≡ true → (a ≡ true) × (b ≡ true)
true_both true b e = (refl, e)
true_both false b e = absurd (cc)

pub in_root_true : (z : Bounds) (v : ℤ) → IsInRootBounds z v → is_in_root z v ≡ true
in_root_true z v r =
    both_true (is_from z.least v) (is_to z.greatest v) (from_true z.least v r.0) (to_true z.greatest v r.1)

pub in_root_is : (z : Bounds) (v : ℤ) → is_in_root z v ≡ true → IsInRootBounds z v
in_root_is z v e =
    let p = true_both (is_from z.least v) (is_to z.greatest v) e in (from_is z.least v p.0, to_is z.greatest v p.1)

pub in_root_false : (z : Bounds) (v : ℤ) → (IsInRootBounds z v → ⊥) → is_in_root z v ≡ false
in_root_false z v n = false_from_ne_true (is_in_root z v) (λ e. n (in_root_is z v e))

pub below_true : (n : ℕ) (a : List ℕ) → AllByRecursion (λ c. c < n) a → all_below n a ≡ true
below_true n [] h = refl
below_true n (c ∷ a) h = both_true (nat_lt c n) (all_below n a) (lt-ltb c n h.0) (below_true n a h.1)

pub below_is : (n : ℕ) (a : List ℕ) → all_below n a ≡ true → AllByRecursion (λ c. c < n) a
below_is n [] e = tt
below_is n (c ∷ a) e = let p = true_both (nat_lt c n) (all_below n a) e in (ltb-true c n p.0, below_is n a p.1)
