-- The first tags of a list's members, during the check of a list.
use Rattle.std.specs.Prelude.{◌≡◌, ◌↔◌, ℕ, ◌<◌, true, List, [], ◌∷◌, Option, Some, slice_get, map, Vec, MatchOption}
use Rattle.std.specs.Global.{Global}
use Rattle.std.specs.declared.cmp.Ordering.{Ordering}
use Rattle.std.specs.List.{list_any}
use Rattle.std.specs.Ordering.{is_eq, nat_cmp, ordering_then}
use Rattle.asn_base.specs.Tags.{class_rank}
use Rattle.tagging.specs.Tags.{Label}
use Rattle.trees.specs.declared.types.ListKind.{ListKind}
use Rattle.trees.specs.declared.types.ListKind.TheVariants.{Sequence, Set, Choice}
use Rattle.type_table.specs.Table.{Part, Type'}
use Rattle.tagging.specs.First.{member_can_be_absent, Apart, Together, Distinct}
use Rattle.tagging.specs.Tagged.{Clash}
use Rattle.tagging.specs.proving.Heads.{AreFirst}

-- the first tags of the members, a list each
pub data Collected (ts : List Type') : List Part → List (List Label) → Type 0 where
  none : Collected ts [] []
  one : {c : Part} {us : List Label} {cs : List Part} {vs : List (List Label)} →
      AreFirst ts c.ty us →
      Collected ts cs vs →
      Collected ts (c ∷ cs) (us ∷ vs)

abbrev pub tag_lists : List (Vec Label Global) → List (List Label)
tag_lists = map (λ v. v.items)

-- the member after this one can be the next of an encoding at a point where this one could be
abbrev pub Passes : ListKind → Part → Type 0
Passes Sequence c = member_can_be_absent c ≡ true
Passes Set c = Unit {0}
Passes Choice c = Unit {0}

-- the member at p has no first tag in common with the members after it and before index n
abbrev pub IsClear : List Type' → ListKind → List Part → ℕ → ℕ → Type 0
IsClear ts k cs p n = (q : ℕ) (c d : Part) →
    p < q →
    q < n →
    slice_get cs p ≡ Some c →
    slice_get cs q ≡ Some d →
    Together k cs p q →
    Apart ts c.ty d.ty

-- ---- tags in an ordered set

-- a tag as two numbers, by which tags are sorted
abbrev pub key_of : Label → ℕ × ℕ
key_of t = (class_rank t.0, t.1)

abbrev pub key_cmp : ℕ × ℕ → ℕ × ℕ → Ordering
key_cmp x y = ordering_then (nat_cmp x.0 y.0) (nat_cmp x.1 y.1)

-- key x is one of these keys
abbrev pub IsIn : List (ℕ × ℕ) → ℕ × ℕ → Type 0
IsIn keys x = list_any (λ y. is_eq (key_cmp x y)) keys ≡ true

-- key x is that of one of these tags
pub record HasKey (us : List Label) (x : ℕ × ℕ) : Type 0 where
  pub place : ℕ
  pub tag : Label
  pub there : slice_get us place ≡ Some tag
  pub is : key_of tag ≡ x

-- key x is that of a first tag of a member before index q, and an encoding can go on with that member or with the one
-- at q
pub record IsMet (k : ListKind) (cs : List Part) (vs : List (List Label)) (q : ℕ) (x : ℕ × ℕ) : Type 0 where
  pub place : ℕ
  pub before : place < q
  pub together : Together k cs place q
  pub tags : List Label
  pub there : slice_get vs place ≡ Some tags
  pub has : HasKey tags x

-- the set holds the keys of the tags that the member at index q can meet
abbrev pub Meets : ListKind → List Part → List (List Label) → ℕ → List (ℕ × ℕ) → Type 0
Meets k cs vs q keys = (x : ℕ × ℕ) → IsIn keys x ↔ IsMet k cs vs q x

-- the member at index q clashes with one before it, and no member before index q does
pub record ClashesFirst (ts : List Type') (k : ListKind) (cs : List Part) (q : ℕ) : Type 0 where
  pub earlier : ℕ
  pub clash : Clash ts k cs earlier q
  pub before : (m n : ℕ) → n < q → Clash ts k cs m n → ⊥

-- the answer to whether members clash: none do, or the first one that does
abbrev pub ReportsClash : List Type' → ListKind → List Part → Option ℕ → Type 0
ReportsClash ts k cs o = MatchOption o (Distinct ts k cs) (ClashesFirst ts k cs)
