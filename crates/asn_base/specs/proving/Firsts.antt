-- First tags as numbers, so that those of a type can be compared in one list.
use Rattle.std.specs.Prelude.{ℕ, suc, ◌+◌, ◌*◌, ◌<◌, List, [], ◌∷◌, ◌++◌, map, Option, Some, None, slice_get, if◌then◌else◌}
use Rattle.asn_base.specs.declared.tag.Tag.{Tag}
use Rattle.asn_base.specs.Types.{Alternative, Kind, a_set, a_choice, Component, Resolved, Is}
use Rattle.asn_base.specs.Tags.{class_rank, is_mandatory}
use Rattle.asn_base.specs.Rules.{HasOwnTags, HasFirstTagsApart}

-- the outermost tag, if there is one
abbrev pub outermost : List Tag → List Tag
outermost [] = []
outermost (g ∷ gs) = g ∷ []

abbrev pub outermost_of : Option Resolved → List Tag
outermost_of None = []
outermost_of (Some r) = outermost r.tags

-- the outermost tag of type t, if it has one
abbrev pub heads : List Resolved → ℕ → List Tag
heads s t = outermost_of (slice_get s t)

-- the outermost tags of the types of alternatives
abbrev pub alternative_heads : List Resolved → List Alternative → List Tag
alternative_heads s [] = []
alternative_heads s (a ∷ as') = heads s a.type ++ alternative_heads s as'

abbrev pub choice_heads : List Resolved → Kind → List Tag
choice_heads s (a_choice root e more) = alternative_heads s (root ++ more)
choice_heads s k = []

abbrev pub firsts_by : List Resolved → List Tag → Kind → List Tag
firsts_by s [] k = choice_heads s k
firsts_by s (g ∷ gs) k = g ∷ []

abbrev pub firsts_of : List Resolved → Option Resolved → List Tag
firsts_of s None = []
firsts_of s (Some r) = firsts_by s r.tags r.kind

-- the first tags of type t, if the alternatives of an untagged CHOICE have tags of their own
abbrev pub firsts : List Resolved → ℕ → List Tag
firsts s t = firsts_of s (slice_get s t)

-- a tag in a run as a number: 2^34 for a run and 2^32 for a class
abbrev pub key : ℕ → Tag → ℕ
key n g = n * 17179869184 + (class_rank g.class * 4294967296 + g.number)

-- the keys of the first tags of types, each with the number of its run
abbrev pub flat : List Resolved → List (ℕ × ℕ) → List ℕ
flat s [] = []
flat s (p ∷ ps) = map (key p.0) (firsts s p.1) ++ flat s ps

-- the types of components with the numbers of their runs, from run n on
abbrev pub in_runs : ℕ → List Component → List (ℕ × ℕ)
in_runs n [] = []
in_runs n (c ∷ cs) = (n, c.type) ∷ in_runs (if is_mandatory c then suc n else n) cs

-- types in one run
abbrev pub in_one : List ℕ → List (ℕ × ℕ)
in_one = map (λ t. (0, t))

-- the types of the components of a SET or the alternatives of a CHOICE, whose first tags must differ
abbrev pub own_types : Kind → List ℕ
own_types (a_set e cs) = map (λ c. c.type) cs
own_types (a_choice root e more) = map (λ a. a.type) (root ++ more)
own_types k = []

-- the components of each SET and the alternatives of each CHOICE have tags of their own
abbrev pub AreOwn : List Resolved → Type 0
AreOwn s = (t : ℕ) (tags : List Tag) (k : Kind) → Is s t tags k → HasOwnTags s k

-- first tags differ in each SET and CHOICE
abbrev pub AreChoicesApart : List Resolved → Type 0
AreChoicesApart s = (t : ℕ) (tags : List Tag) (k : Kind) → Is s t tags k → HasFirstTagsApart s k

-- the number of the first tag of a list
abbrev pub number_of : List Tag → ℕ
number_of [] = 0
number_of (g ∷ gs) = key 0 g

abbrev pub IsHeadBefore : List Resolved → Alternative → Alternative → Type 0
IsHeadBefore s a b = number_of (heads s a.type) < number_of (heads s b.type)
