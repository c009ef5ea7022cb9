-- Components by the steps of a routine, and the order of a SET's (X.690, 10.3).
use Rattle.std.specs.Prelude.{◌≡◌, ℕ, suc, Bool, List, [], ◌∷◌, Option, Some, None}
use Rattle.std.specs.List.{AllByRecursion}
use Rattle.asn_base.specs.declared.tag.Tag.{Tag}
use Rattle.asn_base.specs.Tags.{First, TagBefore}
use Rattle.asn_base.specs.Types.{Component, Resolved}
use Rattle.encodings.specs.Header.{Octets, Encodings}
use Rattle.codec_code.specs.declared.step.Step.{Step}
use Rattle.codec_code.specs.Routines.{field_of}
use Rattle.octet_answers.specs.Found.{field_in}
use Rattle.der_check.specs.Units.{IsUnit}

-- steps read these components, from place i on, and no others
pub data ReadsComponents : List Component → ℕ → List Step → Type 0 where
  reads_none : {i : ℕ} {ss : List Step} → AllByRecursion (λ p. field_in p ≡ None) ss → ReadsComponents [] i ss
  reads_more : {c : Component} {cs : List Component} {i : ℕ} {p : Step} {ss : List Step}
      → field_in p ≡ Some (field_of i c)
      → ReadsComponents cs (suc i) ss
      → ReadsComponents (c ∷ cs) i (p ∷ ss)

-- the tag can be the first one of one of the components
pub data IsOfOne (s : List Resolved) (g : Tag) : List Component → Type 0 where
  of_first : {c : Component} {cs : List Component} → First s c.type g → IsOfOne s g (c ∷ cs)
  of_later : {c : Component} {cs : List Component} → IsOfOne s g cs → IsOfOne s g (c ∷ cs)

-- the tag can be the first one of none of the components
abbrev pub IsOfNone : List Resolved → Tag → List Component → Type 0
IsOfNone s g cs = AllByRecursion (λ c. First s c.type g → ⊥) cs

-- encodings are split into those of components and the others, each in their order
pub data Parted (s : List Resolved) (cs : List Component) : Encodings → Encodings → Encodings → Type 0 where
  parted_none : Parted s cs [] [] []
  parted_known : {g : Tag} {y : Octets} {ys zs us : Encodings}
      → IsUnit g y
      → IsOfOne s g cs
      → Parted s cs ys zs us
      → Parted s cs (y ∷ ys) (y ∷ zs) us
  parted_other : {g : Tag} {y : Octets} {ys zs us : Encodings}
      → IsUnit g y
      → IsOfNone s g cs
      → Parted s cs ys zs us
      → Parted s cs (y ∷ ys) zs (y ∷ us)

-- the tag comes after the last one, if there is one
abbrev pub IsAfter : Option Tag → Tag → Type 0
IsAfter None g = Unit {0}
IsAfter (Some f) g = TagBefore f g

-- The last tag of a component's encoding after one more encoding, and whether that one is a component's. The tag of a
-- component's encoding becomes the last one, if it comes after the one before; other encodings leave the last tag as it
-- is.
pub data Climbs (s : List Resolved) (cs : List Component) (g : Tag) (last : Option Tag) : Option Tag → Bool →
    Type 0 where
  climbs : IsOfOne s g cs → IsAfter last g → Climbs s cs g last (Some g) Bool.true
  passes : IsOfNone s g cs → Climbs s cs g last last Bool.false
