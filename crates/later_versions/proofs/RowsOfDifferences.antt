-- Rows of differences: what each part of them says, in full. A definition that lost a part would fail one of them.
use Rattle.std.proofs.Common.{◌≡◌, ℕ, ◌<◌, ◌≤◌, inl, inr, true, false, List, length, refl}
use Rattle.std.specs.Prelude.{◌⊎◌, ◌↔◌, ℤ, Some, slice_get}
use Rattle.asn_base.specs.Schemas.{is_addition}
use Rattle.asn_base.specs.Typed.{IsAllowed}
use Rattle.asn_base.specs.Types.{Component, Constraint, Resolved}
use Rattle.later_versions.specs.Differences.{AreSameTo, ComponentDiffers, ComponentsDiffer, ConstraintDiffers}
use Rattle.later_versions.specs.Differences.{IsComparison, IsDifference, IsSmaller, KindDiffers, TypeDiffers}
use Rattle.later_versions.specs.Differences.{is_no_addition, is_other, is_removed, other_allowed, other_bounds}
use Rattle.later_versions.specs.Differences.{other_brackets, other_tags, with_tags}
use Rattle.later_versions.specs.Later.{AreInOneGroup, IsFront, IsLaterType, IsSameComponent, Later, leads}
use Rattle.later_versions.specs.declared.reason.Comparison.TheVariants as answers
use Rattle.later_versions.specs.declared.reason.Difference.{Difference}
use Rattle.later_versions.specs.declared.reason.Reason.{Reason}
use Rattle.later_versions.specs.declared.reason.Reason.TheVariants as reasons

module _ (s : List Resolved) (t : ℕ) (r : List Resolved) (u : ℕ) where
  later_is_later : IsComparison s t r u answers.Later → Later s t r u
  later_is_later h = h

  module _ (d : Difference) (h : IsComparison s t r u (answers.Differs d)) where
    differing : IsDifference s t r u d
    differing = h

    differing_there : (leads s t d.places.items ≡ Some d.older.index) × (leads r u d.places.items ≡ Some d.newer.index)
    differing_there = (differing.leads_older, differing.leads_newer)

    differing_types : (x y : Resolved)
        × (slice_get s d.older.index ≡ Some x) × (slice_get r d.newer.index ≡ Some y) × TypeDiffers s x y d.reason
    differing_types = (differing.one, differing.other, differing.at_older, differing.at_newer, differing.differs)

    -- places that are fewer, or as many and smaller at the first that differs, lead to types and later versions of them
    differing_first : (places : List ℕ) (i j : ℕ) (q w : Resolved)
        → (length places < length d.places.items)
        ⊎ ((length places ≡ length d.places.items) × IsSmaller places d.places.items)
        → leads s t places ≡ Some i
        → leads r u places ≡ Some j
        → slice_get s i ≡ Some q
        → slice_get r j ≡ Some w
        → IsLaterType s q w
    differing_first = differing.first

module _ {A : Type 0} (R : A → A → Type 0) (xs ys : List A) (i : ℕ) (h : AreSameTo R xs ys i) where
  same_within : (i ≤ length xs) × (i ≤ length ys)
  same_within = (h.in_first, h.in_second)

  same_before : (j : ℕ) (x y : A) → j < i → slice_get xs j ≡ Some x → slice_get ys j ≡ Some y → R x y
  same_before = h.before

  other_there : (x y : A) → slice_get xs i ≡ Some x → slice_get ys i ≡ Some y → R x y → ⊥
  other_there = h.other

-- ---- each case with all that it asks for

-- what differs in kinds is reported of types with the same tags
type_cases : (s : List Resolved) (q r : Resolved) (e : Reason)
    → TypeDiffers s q r e
    → ((e ≡ reasons.Tags) × (q.tags ≡ r.tags → ⊥)) ⊎ ((q.tags ≡ r.tags) × KindDiffers s q.kind r.kind e)
type_cases s q r e (other_tags n) = inl (refl, n)
type_cases s q r e (with_tags t k) = inr (t, k)

-- other bounds are reported of constraints that allow the same
constraint_cases : (P : ℤ → Type 0) (allowed : Reason) (c d : Constraint) (e : Reason)
    → ConstraintDiffers P allowed c d e
    → ((e ≡ allowed) × (((z : ℤ) → P z → (IsAllowed c z ↔ IsAllowed d z)) → ⊥))
    ⊎ ((e ≡ reasons.Bounds) × ((z : ℤ) → P z → (IsAllowed c z ↔ IsAllowed d z)) × (c.visible ≡ d.visible → ⊥))
constraint_cases P allowed c d e (other_allowed n) = inl (refl, n)
constraint_cases P allowed c d e (other_bounds a n) = inr (refl, a, n)

module _ (s : List Resolved) (cs ds : List Component) where
  -- the components before place i are the same
  abbrev SameBefore : ℕ → Type 0
  SameBefore i =
      (j : ℕ) (c d : Component)
      → j < i
      → slice_get cs j ≡ Some c
      → slice_get ds j ≡ Some d
      → IsSameComponent s c d

  -- those that are appended before place i are additions
  abbrev AddedBefore : ℕ → Type 0
  AddedBefore i = (j : ℕ) (d : Component) → length cs ≤ j → j < i → slice_get ds j ≡ Some d → is_addition d ≡ true

  abbrev Removed : Reason → Type 0
  Removed e = (i : ℕ) × (e ≡ reasons.Removed i) × SameBefore i × (i < length cs) × (i ≡ length ds)

  abbrev Other : Reason → Type 0
  Other e =
      (i : ℕ) × (c : Component) × (d : Component)
      × SameBefore i × (slice_get cs i ≡ Some c) × (slice_get ds i ≡ Some d) × ComponentDiffers s i c d e

  abbrev Appended : Reason → Type 0
  Appended e =
      (i : ℕ) × (d : Component) × (e ≡ reasons.Appended i) × IsFront (IsSameComponent s) cs ds
      × (length cs ≤ i) × AddedBefore i × (slice_get ds i ≡ Some d) × (is_addition d ≡ false)

  abbrev Brackets : Reason → Type 0
  Brackets e =
      (i : ℕ) × (e ≡ reasons.Brackets i) × IsFront (IsSameComponent s) cs ds × AddedBefore (length ds)
      × (i ≤ length cs)
      × ((j k : ℕ) → j < i → k < i → (AreInOneGroup cs j k ↔ AreInOneGroup ds j k))
      × (((j : ℕ) → j < length cs → j ≤ i → (AreInOneGroup cs j i ↔ AreInOneGroup ds j i)) → ⊥)

  components_cases : (e : Reason) → ComponentsDiffer s cs ds e → Removed e ⊎ (Other e ⊎ (Appended e ⊎ Brackets e))
  components_cases e (is_removed {i = i} b l n) = inl (i, refl, b, l, n)
  components_cases e (is_other i c d b f g o) = inr (inl (i, c, d, b, f, g, o))
  components_cases e (is_no_addition {i = i} d f l a g n) = inr (inr (inl (i, d, refl, f, l, a, g, n)))
  components_cases e (other_brackets {i = i} f a l g n) = inr (inr (inr (i, refl, f, a, l, g, n)))
