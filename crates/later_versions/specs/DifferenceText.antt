-- The text that says where and why a type is no later version of another one.
use Rattle.std.specs.Prelude.{◌≡◌, ℕ, List, [], ◌∷◌, ◌++◌, Bool, true, false, cond, get_or, length, map, Some, None, slice_get}
use Rattle.std.specs.Prelude.{codes, decimal, nat_lt, string_bytes}
use Rattle.asn_base.specs.Types.{Kind, Resolved, a_sequence, a_set, a_choice}
use Rattle.later_versions.specs.Projected.{member_of}
use Rattle.later_versions.specs.declared.reason.Difference.{Difference}
use Rattle.later_versions.specs.declared.reason.Reason.{Reason}
use Rattle.later_versions.specs.declared.reason.Reason.TheVariants as reasons
use Rattle.later_versions.specs.declared.reason.Comparison.{Comparison}
use Rattle.later_versions.specs.declared.reason.Comparison.TheVariants as answers
use Rattle.later_versions.specs.declared.reason.Explained.{Explained}
use Rattle.later_versions.specs.declared.reason.Explained.TheVariants as explained

-- the names of the members of a type of this kind: of components, or of alternatives over both lists
abbrev pub names_in : Kind → List (List ℕ)
names_in (a_sequence e cs) = map (λ c. c.name) cs
names_in (a_set e cs) = map (λ c. c.name) cs
names_in (a_choice root e more) = map (λ a. a.name) (root ++ more)
names_in k = []

-- the names of the members of type t
abbrev pub names_at : List Resolved → ℕ → List (List ℕ)
names_at s t = elim (slice_get s t) [ None ↦ [] | Some r ↦ names_in r.kind ]

-- the name of the member at a place of type t, and nothing if there is none
abbrev pub name_at : List Resolved → ℕ → ℕ → List ℕ
name_at s t i = get_or (names_at s t) i []

-- The label of the member at a place of type t: its name, or its number in parentheses if the name has more than 60
-- octets. The label of an element is empty.
abbrev pub label_at : List Resolved → ℕ → ℕ → List ℕ
label_at s t i =
    cond (nat_lt 60 (length (name_at s t i))) (codes "(" ++ decimal i ++ codes ")") (name_at s t i)

-- a path followed by a label, after a dot, unless the path is empty; of the elements of a list by square brackets
abbrev pub with_label : List ℕ → List ℕ → List ℕ
with_label p [] = p ++ codes "[]"
with_label [] (c ∷ label) = c ∷ label
with_label (d ∷ p) (c ∷ label) = (d ∷ p) ++ codes "." ++ (c ∷ label)

-- A path followed by members of type t, each a member of the one before. It ends before the first member with which it
-- would have more than 60 octets.
abbrev pub with_members : List Resolved → ℕ → List ℕ → List ℕ → List ℕ
with_members s t p [] = p
with_members s t p (i ∷ places) =
    cond (nat_lt 60 (length (with_label p (label_at s t i)))) p
    (with_members s (member_of s t i) (with_label p (label_at s t i)) places)

-- what comes in the text of a reason before the name or the number
abbrev pub words_of : Reason → List ℕ
words_of reasons.Tags = codes "the tags differ"
words_of reasons.Kind = codes "the types are of two kinds"
words_of reasons.Numbers = codes "other numbers are allowed"
words_of reasons.Alphabet = codes "other characters are allowed"
words_of reasons.Sizes = codes "other sizes are allowed"
words_of reasons.Bounds = codes "PER uses other bounds"
words_of reasons.NamedBits = codes "other bits are named"
words_of reasons.Marker = codes "the extension marker is in one of both alone"
words_of (reasons.Root i) = codes "the roots differ from number "
words_of (reasons.Addition i) = codes "the additions differ from number "
words_of (reasons.Removed i) = codes "the newer type lacks component "
words_of (reasons.Name i) = codes "the newer type has another name for component "
words_of (reasons.Presence i) = codes "OPTIONAL, DEFAULT or the extension marker differs at component "
words_of (reasons.Default i) = codes "the newer type has another default of component "
words_of (reasons.Appended i) = codes "the root of the newer type has one more component: "
words_of (reasons.Brackets i) = codes "version brackets differ at component "

-- the label of the component, or the number of the member from 0, of older type t and newer type u
abbrev pub label_of : List Resolved → ℕ → List Resolved → ℕ → Reason → List ℕ
label_of s t r u (reasons.Root i) = decimal i
label_of s t r u (reasons.Addition i) = decimal i
label_of s t r u (reasons.Removed i) = label_at s t i
label_of s t r u (reasons.Name i) = label_at s t i
label_of s t r u (reasons.Presence i) = label_at s t i
label_of s t r u (reasons.Default i) = label_at s t i
label_of s t r u (reasons.Appended i) = label_at r u i
label_of s t r u (reasons.Brackets i) = label_at r u i
label_of s t r u e = []

-- the text of a path: nothing for an empty one
abbrev pub at_path : List ℕ → List ℕ
at_path [] = []
at_path (c ∷ p) = codes "at " ++ (c ∷ p) ++ codes ": "

-- the text of a difference from type t of the older schema
abbrev pub difference_text : List Resolved → ℕ → List Resolved → Difference → List ℕ
difference_text s t r d =
    at_path (with_members s t [] d.places.items)
    ++ words_of d.reason
    ++ label_of s d.older.index r d.newer.index d.reason

-- the answer of a comparison without its text
abbrev pub comparison_of : Explained → Comparison
comparison_of explained.Later = answers.Later
comparison_of (explained.Differs d text) = answers.Differs d

-- whether the answer is that the newer type is a later version
abbrev pub says_later : Explained → Bool
says_later explained.Later = true
says_later (explained.Differs d text) = false

-- the text of an answer is that of its difference
abbrev pub HasText : List Resolved → ℕ → List Resolved → Explained → Type 0
HasText s t r explained.Later = Unit {0}
HasText s t r (explained.Differs d text) = string_bytes text ≡ difference_text s t r d
