-- First tags, by which a decoder recognizes components and alternatives, and the canonical order of tags (X.680,
-- clauses 8.6, 25.6.1, 27.3 and 29.3).
use Rattle.std.specs.Prelude.{◌≡◌, ℕ, ◌<◌, ◌≤◌, ◌⊎◌, length, Bool, true, false, List, [], ◌∷◌, ◌++◌, Some, slice_get}
use Rattle.std.specs.Prelude.{map, if◌then◌else◌}
use Rattle.std.specs.List.{AllByRecursion}
use Rattle.asn_base.specs.declared.tag.Class.{Class}
use Rattle.asn_base.specs.declared.tag.Class.TheVariants.{Universal, Application, Context, Private}
use Rattle.asn_base.specs.declared.tag.Tag.{Tag}
use Rattle.asn_base.specs.Types.{Alternative, Kind, a_sequence, a_set, a_choice, mandatory, optional, default, addition}
use Rattle.asn_base.specs.Types.{Component, Resolved, Is}

-- An encoding of a value of type t of schema s can start with tag g, a first tag of the type. It is the type's
-- outermost tag; for an untagged CHOICE it is a first tag of one of its alternatives.
pub data First (s : List Resolved) : ℕ → Tag → Type 0 where
  first_tag : {t : ℕ} {g : Tag} {ts : List Tag} {k : Kind}
      → Is s t (g ∷ ts) k
      → First s t g
  first_of_choice : {t : ℕ} {g : Tag} {e : Bool} {root more : List Alternative} {a : Alternative} (i : ℕ)
      → Is s t [] (a_choice root e more)
      → slice_get (root ++ more) i ≡ Some a
      → First s a.type g
      → First s t g

-- no tag is a first tag of both type t and type u
abbrev pub AreApart : List Resolved → ℕ → ℕ → Type 0
AreApart s t u = (g : Tag) → First s t g → First s u g → ⊥

-- no tag is a first tag of two of the types with these numbers
abbrev pub AllApart : List Resolved → List ℕ → Type 0
AllApart s [] = Unit {0}
AllApart s (t ∷ ts) = AllByRecursion (AreApart s t) ts × AllApart s ts

-- whether the component is in the root, is not OPTIONAL and has no DEFAULT, so that each value has it (X.680, clause
-- 25)
abbrev pub is_mandatory : Component → Bool
is_mandatory c = elim c.presence [ mandatory ↦ true | optional ↦ false | default d ↦ false | addition o g ↦ false ]

-- the components up to the first mandatory one, which is included (X.680, clause 25.6.1)
abbrev pub first_run : List Component → List Component
first_run [] = []
first_run (c ∷ cs) = if is_mandatory c then c ∷ [] else c ∷ first_run cs

-- Each component that may be absent has no first tag in common with the later ones of its run (X.680, clause 25.6.1).
-- The last run includes the additions (own rule).
abbrev pub RunsApart : List Resolved → List Component → Type 0
RunsApart s [] = Unit {0}
RunsApart s (c ∷ cs) =
    (is_mandatory c ≡ false → AllByRecursion (λ d. AreApart s c.type d.type) (first_run cs))
    × RunsApart s cs

-- First tags are distinct where this kind needs it, which is in each run of a SEQUENCE, in a SET, and in a CHOICE
-- (X.680, clauses 25.6.1, 27.3 and 29.3).
abbrev pub HasDistinctTags : List Resolved → Kind → Type 0
HasDistinctTags s (a_sequence e cs) = RunsApart s cs
HasDistinctTags s (a_set e cs) = AllApart s (map (λ c. c.type) cs)
HasDistinctTags s (a_choice root e more) = AllApart s (map (λ a. a.type) (root ++ more))
HasDistinctTags s k = Unit {0}

-- first tags are distinct in each SET and CHOICE of the schema, and in each SEQUENCE within its runs (X.680, clauses
-- 25.6.1, 27.3 and 29.3)
abbrev pub AllHaveDistinctTags : List Resolved → Type 0
AllHaveDistinctTags s = (t : ℕ) (tags : List Tag) (k : Kind) → Is s t tags k → HasDistinctTags s k

-- the kind of resolved type is a CHOICE
abbrev pub IsChoice : Kind → Type 0
IsChoice (a_choice root e more) = Unit {0}
IsChoice k = ⊥

-- each type of the schema without a tag is a CHOICE (X.680, clause 29)
abbrev pub AllTagged : List Resolved → Type 0
AllTagged s = (t : ℕ) (k : Kind) → Is s t [] k → IsChoice k

-- Each type of the schema has at most six tags (own rule): four written ones, the tag of its kind and an automatic one.
abbrev pub HasFewTags : List Resolved → Type 0
HasFewTags s = (t : ℕ) (tags : List Tag) (k : Kind) → Is s t tags k → length tags ≤ 6

-- the place of a class in the order universal, application, context-specific, private (X.680, clause 8.6)
abbrev pub class_rank : Class → ℕ
class_rank Universal = 0
class_rank Application = 1
class_rank Context = 2
class_rank Private = 3

-- tag g comes before tag f in the canonical order, by class, and within a class by number (X.680, clause 8.6)
abbrev pub TagBefore : Tag → Tag → Type 0
TagBefore g f =
    (class_rank g.class < class_rank f.class)
    ⊎ ((class_rank g.class ≡ class_rank f.class) × (g.number < f.number))
