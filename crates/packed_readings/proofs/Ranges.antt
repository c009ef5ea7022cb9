-- Tests of bounds and ranges.
use Rattle.std.proofs.Common.{◌≡◌, ◌⊎◌, inl, inr, Bool, true, false, List, [], ◌∷◌, refl, sym, ap}
use Rattle.std.specs.Prelude.{if◌then◌else◌, Option, Some, None, IfSome, ℤ, ◌↔◌, IsTrue}
use Rattle.asn_base.specs.Types.{Range, Bounds, Constraint}
use Rattle.asn_base.specs.Typed.{IsInRange, IsInSome, IsAllowed}
use Rattle.packed_encodings.specs.Lengths.{Bits, IsInRootBounds}
use Rattle.packed_encodings.specs.Computed.{is_from, is_to, is_in_root}
use Rattle.packed_encodings.specs.proving.Tests.{from_true, from_is, to_true, to_is, both_true, true_both}
use Rattle.packed_encodings.specs.proving.Tests.{in_root_true, in_root_is}
use Rattle.packed_readings.specs.Counts.{is_in_range, is_in_some, is_allowed}
use Rattle.packed_readings.specs.Outcome.{Outcome, IsReading}

pub bool_cases : (b : Bool) → (b ≡ true) ⊎ (b ≡ false)
bool_cases true = inl refl
bool_cases false = inr refl

pub apart : true ≡ false → ⊥
apart e = cc

pub if_reading : {X : Type 0} (P : X → Bits → Type 0) (t : Bool) (f g : Bits → Outcome X) → (t ≡ true → IsReading P f) → (t ≡ false → IsReading P g) → IsReading P (λ b. if t then f b else g b)
if_reading P true f g F G = F refl
if_reading P false f g F G = G refl

range_true : (r : Range) (v : ℤ) → IsInRange v r → is_in_range v r ≡ true
range_true r v h = both_true (is_from r.least v) (is_to r.greatest v) (from_true r.least v h.0) (to_true r.greatest v h.1)

range_is : (r : Range) (v : ℤ) → is_in_range v r ≡ true → IsInRange v r
range_is r v e = let p = true_both (is_from r.least v) (is_to r.greatest v) e in (from_is r.least v p.0, to_is r.greatest v p.1)

some_true : (rs : List Range) (v : ℤ) → IsInSome v rs → is_in_some v rs ≡ true
some_true [] v h = absurd h
some_true (r ∷ rs) v (inl h) = ap (λ t. if t then true else is_in_some v rs) (range_true r v h)
some_true (r ∷ rs) v (inr h) = by (is_in_range v r) (some_true rs v h)
  where
    by : (t : Bool) → is_in_some v rs ≡ true → (if t then true else is_in_some v rs) ≡ true
    by true e = refl
    by false e = e

some_is : (rs : List Range) (v : ℤ) → is_in_some v rs ≡ true → IsInSome v rs
some_is [] v e = absurd (cc)
some_is (r ∷ rs) v e = by (is_in_range v r) refl e (λ f. some_is rs v f)
  where
    by : (t : Bool) → is_in_range v r ≡ t → (if t then true else is_in_some v rs) ≡ true → (is_in_some v rs ≡ true → IsInSome v rs) → IsInSome v (r ∷ rs)
    by true f e k = inl (range_is r v f)
    by false f e k = inr (k e)

pub allowed_true : (c : Constraint) (v : ℤ) → IsAllowed c v → is_allowed c v ≡ true
allowed_true c v h = by c.allowed h
  where
    by : (o : Option (List Range)) → IfSome o (IsInSome v) → elim o [ None ↦ true | Some rs ↦ is_in_some v rs ] ≡ true
    by None h = refl
    by (Some rs) h = some_true rs v h

pub allowed_is : (c : Constraint) (v : ℤ) → is_allowed c v ≡ true → IsAllowed c v
allowed_is c v e = by c.allowed e
  where
    by : (o : Option (List Range)) → elim o [ None ↦ true | Some rs ↦ is_in_some v rs ] ≡ true → IfSome o (IsInSome v)
    by None e = tt
    by (Some rs) e = some_is rs v e

one_truth : (a b : Bool) → (a ≡ true → b ≡ true) → (b ≡ true → a ≡ true) → a ≡ b
one_truth true b f g = sym (f refl)
one_truth false true f g = g refl
one_truth false false f g = refl

pub root_same : (b : Bool) (z : Bounds) (v : ℤ) → (IsTrue b ↔ IsInRootBounds z v) → b ≡ is_in_root z v
root_same b z v e = one_truth b (is_in_root z v) (λ t. in_root_true z v (e.0 t)) (λ t. e.1 (in_root_is z v t))

pub allowed_same : (b : Bool) (c : Constraint) (v : ℤ) → (IsTrue b ↔ IsAllowed c v) → b ≡ is_allowed c v
allowed_same b c v e = one_truth b (is_allowed c v) (λ t. allowed_true c v (e.0 t)) (λ t. e.1 (allowed_is c v t))
