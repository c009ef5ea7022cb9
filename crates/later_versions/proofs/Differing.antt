-- What differs contradicts what holds for a later version.
use Rattle.std.proofs.Common.{arith, ◌≡◌, ℕ, inl, inr, List, length, refl, sym, ap, subst, ◌∙◌, Bool, false, Some, None}
use Rattle.std.specs.Prelude.{◌↔◌, IsTrue, MatchOption, Option}
use Rattle.asn_base.specs.Abstract.{AbstractValue}
use Rattle.asn_base.specs.Types.{Component, Constraint, Kind, Presence, Resolved, an_integer, an_enumerated, a_bit_string, a_named_bit_string, an_octet_string, a_utf8_string, a_restricted_string, a_sequence, a_set, a_sequence_of, a_set_of, a_choice, default, addition}
use Rattle.asn_base.specs.Schemas.{IsNumber, IsSize}
use Rattle.asn_base.specs.Same.{Same}
use Rattle.later_versions.specs.Projected.{projected, left_out}
use Rattle.later_versions.specs.declared.reason.Reason.TheVariants.{Default, Presence as Presence'}
use Rattle.later_versions.specs.Later.{AreLater, IsFront, IsLaterKind, IsLaterType, IsMarkedAlike, IsSameComponent, Later, LeaveSame, NameSame, both_mandatory, both_optional, both_default, both_additions, later_boolean, later_integer, later_enumerated, later_bit_string, later_named_bits, later_octet_string, later_null, later_object_identifier, later_relative_oid, later_utf8_string, later_restricted_string, later_sequence, later_set, later_sequence_of, later_set_of, later_choice}
use Rattle.later_versions.specs.Differences.{ComponentDiffers, ComponentsDiffer, ConstraintDiffers, IsComparison, IsDifference, is_later, IsOneKind, IsOnePresence, KindDiffers, ListsDiffer, PresenceDiffers, TypeDiffers}
use Rattle.later_versions.specs.Differences.{other_allowed, other_bounds, other_marker, other_root, other_addition, other_presence, other_default, other_name, other_mark, is_removed, is_other, is_no_addition, other_brackets, other_tags, with_tags}
use Rattle.later_versions.specs.Differences.{two_booleans, two_integers, two_enumerated, two_bit_strings, two_named_bits, two_octet_strings, two_nulls, two_object_identifiers, two_relative_oids, two_utf8_strings, two_restricted_strings, two_sequences, two_sets, two_sequences_of, two_sets_of, two_choices, two_mandatory, two_optional, two_defaults, two_additions}
use Rattle.later_versions.specs.Differences.{other_kind, other_integer, other_enumerated, other_bit_string, other_bits, other_octet_string, other_utf8_string, other_alphabet, other_restricted_string, other_sequence_marker, other_sequence, other_set_marker, other_set, other_sequence_of, other_set_of, other_choice}
use Rattle.later_versions.specs.declared.reason.Difference.{Difference}
use Rattle.later_versions.specs.declared.reason.Reason.{Reason}
use Rattle.later_versions.specs.DifferenceText.{comparison_of, says_later}
use Rattle.later_versions.specs.declared.reason.Explained.{Explained}
use Rattle.later_versions.specs.declared.reason.Explained.TheVariants as explained
use Rattle.later_versions.specs.declared.reason.Comparison.{Comparison}
use Rattle.later_versions.specs.declared.reason.Comparison.TheVariants.{Differs, Later as Later'}
use Rattle.later_versions.proofs.Fronts.{front_other, lists_same, mapped_same, no, yes}
use Rattle.later_versions.proofs.Joined.{groups_not}

-- ---- constraints

constraint_not : {P : _ → Type 0} {a e : Reason} {c d : Constraint} → ConstraintDiffers P a c d e → LeaveSame P c d → ⊥
constraint_not (other_allowed n) l = n l.allowed
constraint_not (other_bounds a n) l = n l.visible

-- ---- lists

lists_not : {A : Type 0} {R : A → A → Type 0} {e f : Bool} {root others more all : List A} {r : Reason}
    → ListsDiffer R e root more f others all r
    → e ≡ f
    → (length root ≡ length others) × IsFront R root others
    → IsFront R more all
    → ⊥
lists_not (other_marker n) q h l = n q
lists_not (other_root {i = i} p s w) q h l = front_other s (elim w [ inl a ↦ a | inr b ↦ (let n = h.0 in omega (arith, b, n)) ]) h.1
lists_not (other_addition p n f s w) q h l = front_other s w l

-- ---- components

one_presence : {s : List Resolved} {t : ℕ} {p q : Presence} → IsMarkedAlike s t p q → IsOnePresence p q
one_presence both_mandatory = two_mandatory
one_presence both_optional = two_optional
one_presence (both_default a b) = two_defaults
one_presence both_additions = two_additions

presence_not : {s : List Resolved} {t i : ℕ} {p q : Presence} {e : Reason}
    → PresenceDiffers s t i p q e
    → IsMarkedAlike s t p q
    → ⊥
presence_not (other_presence n) m = n (one_presence m)
presence_not (other_default n) (both_default a b) = n (a, b)

component_not : {s : List Resolved} {i : ℕ} {c d : Component} {e : Reason}
    → ComponentDiffers s i c d e
    → IsSameComponent s c d
    → ⊥
component_not (other_name n) h = n h.name
component_not (other_mark m p) h = presence_not p h.mark

components_not : {s : List Resolved} {cs ds : List Component} {e : Reason}
    → ComponentsDiffer s cs ds e
    → AreLater s cs ds
    → ⊥
components_not (is_removed b l m) h = absurd (let n = h.front.none_dropped in omega (arith, l, m, n))
components_not (is_other i c d b e f p) h = component_not p (h.front.projected i c d e f)
components_not (is_no_addition {i = i} d f l a e n) h = absurd (let q = h.appended i d l e in cc)
components_not {s = s} {cs = cs} {ds = ds} (other_brackets {i = i} f a l b n) h = groups_not s cs ds i n h

-- ---- kinds

one_kind : {s : List Resolved} {k l : Kind} → IsLaterKind s k l → IsOneKind k l
one_kind later_boolean = two_booleans
one_kind (later_integer h) = two_integers
one_kind (later_enumerated h) = two_enumerated
one_kind (later_bit_string h) = two_bit_strings
one_kind (later_named_bits h) = two_named_bits
one_kind (later_octet_string h) = two_octet_strings
one_kind later_null = two_nulls
one_kind later_object_identifier = two_object_identifiers
one_kind later_relative_oid = two_relative_oids
one_kind (later_utf8_string h) = two_utf8_strings
one_kind (later_restricted_string h) = two_restricted_strings
one_kind (later_sequence h) = two_sequences
one_kind (later_set h) = two_sets
one_kind (later_sequence_of h) = two_sequences_of
one_kind (later_set_of h) = two_sets_of
one_kind (later_choice n h) = two_choices

-- what holds for two kinds of later versions
abbrev LaterFact : List Resolved → Kind → Kind → Type 0
LaterFact s (an_integer c) (an_integer d) = LeaveSame IsNumber c d
LaterFact s (an_enumerated root e more) (an_enumerated others f all) =
    (e ≡ f) × ((length root ≡ length others) × IsFront (λ i j. i ≡ j) root others) × IsFront (λ i j. i ≡ j) more all
LaterFact s (a_bit_string c) (a_bit_string d) = LeaveSame IsSize c d
LaterFact s (a_named_bit_string bs) (a_named_bit_string cs) = NameSame bs cs
LaterFact s (an_octet_string c) (an_octet_string d) = LeaveSame IsSize c d
LaterFact s (a_utf8_string c) (a_utf8_string d) = LeaveSame IsSize c d
LaterFact s (a_restricted_string k xs c) (a_restricted_string j ys d) = (xs ≡ ys) × LeaveSame IsSize c d
LaterFact s (a_sequence e cs) (a_sequence f ds) = (e ≡ f) × AreLater s cs ds
LaterFact s (a_set e cs) (a_set f ds) = (e ≡ f) × AreLater s cs ds
LaterFact s (a_sequence_of c u) (a_sequence_of d v) = LeaveSame IsSize c d
LaterFact s (a_set_of c u) (a_set_of d v) = LeaveSame IsSize c d
LaterFact s (a_choice root e more) (a_choice others f all) =
    (e ≡ f) × ((length root ≡ length others) × IsFront (λ a b. a.name ≡ b.name) root others) × IsFront (λ a b. a.name ≡ b.name) more all
LaterFact s k l = Unit {0}

later_fact : {s : List Resolved} {k l : Kind} → IsLaterKind s k l → LaterFact s k l
later_fact later_boolean = tt
later_fact (later_integer h) = h
later_fact (later_enumerated {root = root} h) = (refl, lists_same root root refl, h)
later_fact (later_bit_string h) = h
later_fact (later_named_bits h) = h
later_fact (later_octet_string h) = h
later_fact later_null = tt
later_fact later_object_identifier = tt
later_fact later_relative_oid = tt
later_fact (later_utf8_string h) = h
later_fact (later_restricted_string h) = (refl, h)
later_fact (later_sequence h) = (refl, h)
later_fact (later_set h) = (refl, h)
later_fact (later_sequence_of h) = h
later_fact (later_set_of h) = h
later_fact (later_choice {root = root} {others = others} n h) = (refl, mapped_same (λ a. a.name) root others n, h)

fact_not : {s : List Resolved} {k l : Kind} {e : Reason} → KindDiffers s k l e → IsOneKind k l → LaterFact s k l → ⊥
fact_not (other_kind n) o h = n o
fact_not (other_integer d) o h = constraint_not d h
fact_not (other_enumerated d) o h = lists_not d h.0 h.1 h.2
fact_not (other_bit_string d) o h = constraint_not d h
fact_not (other_bits n) o h = n h
fact_not (other_octet_string d) o h = constraint_not d h
fact_not (other_utf8_string d) o h = constraint_not d h
fact_not (other_alphabet n) o h = n h.0
fact_not (other_restricted_string d) o h = constraint_not d h.1
fact_not (other_sequence_marker n) o h = n h.0
fact_not (other_sequence d) o h = components_not d h.1
fact_not (other_set_marker n) o h = n h.0
fact_not (other_set d) o h = components_not d h.1
fact_not (other_sequence_of d) o h = constraint_not d h
fact_not (other_set_of d) o h = constraint_not d h
fact_not (other_choice d) o h = lists_not d h.0 h.1 h.2

kind_not : {s : List Resolved} {k l : Kind} {e : Reason} → KindDiffers s k l e → IsLaterKind s k l → ⊥
kind_not d h = fact_not d (one_kind h) (later_fact h)

pub type_not : {s : List Resolved} {q r : Resolved} {e : Reason} → TypeDiffers s q r e → IsLaterType s q r → ⊥
type_not (other_tags n) h = n h.tags
type_not (with_tags t d) h = kind_not d h.kind

-- where both differ, the second is no later version
pub difference_not : (s : List Resolved) (t : ℕ) (s' : List Resolved) (t' : ℕ) (d : Difference)
    → IsDifference s t s' t' d
    → Later s t s' t'
    → ⊥
difference_not s t s' t' d h l =
    type_not h.differs (l d.places.items d.older.index d.newer.index h.one h.other h.leads_older h.leads_newer h.at_older h.at_newer)

pub comparison_later : (s : List Resolved) (t : ℕ) (s' : List Resolved) (t' : ℕ) (a : Comparison)
    → IsComparison s t s' t' a
    → IsTrue (is_later a) ↔ Later s t s' t'
comparison_later s t s' t' Later' h = yes h
comparison_later s t s' t' (Differs d) h = no (difference_not s t s' t' d h)

-- ---- components, judged

pub component_judged : (s : List Resolved) (i : ℕ) (c d : Component) (o : Option Reason)
    → c.name ≡ d.name
    → MatchOption o (IsMarkedAlike s c.type c.presence d.presence) (PresenceDiffers s c.type i c.presence d.presence)
    → MatchOption o (IsSameComponent s c d) (ComponentDiffers s i c d)
component_judged s i c d None n h = record { name = n; mark = h }
component_judged s i c d (Some e) n h = other_mark n h

pub default_differs : (s : List Resolved) (t i : ℕ) (p q : Presence) (d e : AbstractValue)
    → p ≡ default d
    → q ≡ default e
    → ((left_out s t e ≡ 0) × Same s t d (projected s t e) → ⊥)
    → PresenceDiffers s t i p q (Default i)
default_differs s t i p q d e f g n =
    subst (λ x. PresenceDiffers s t i x q (Default i)) (sym f)
    (subst (λ x. PresenceDiffers s t i (default d) x (Default i)) (sym g) (other_default n))

one_addition : {o k : Bool} {g h : Option ℕ} → IsOnePresence (addition o g) (addition k h) → o ≡ k
one_addition two_additions = refl

pub addition_differs : (s : List Resolved) (t i : ℕ) (p q : Presence) (o k : Bool) (g h : Option ℕ)
    → p ≡ addition o g
    → q ≡ addition k h
    → (o ≡ k → ⊥)
    → PresenceDiffers s t i p q (Presence' i)
addition_differs s t i p q o k g h f e n =
    subst (λ x. PresenceDiffers s t i x q (Presence' i)) (sym f)
    (subst (λ x. PresenceDiffers s t i (addition o g) x (Presence' i)) (sym e) (other_presence (λ w. n (one_addition w))))

-- presences that are not one
pub by_presence : (s : List Resolved) (t i : ℕ) (p q : Presence) → IsTrue false ↔ IsOnePresence p q → PresenceDiffers s t i p q (Presence' i)
by_presence s t i p q h = other_presence (λ o. absurd (let e = h.1 o in cc))

says_same : (a : Explained) → is_later (comparison_of a) ≡ says_later a
says_same explained.Later = refl
says_same (explained.Differs d t) = refl

pub said_later : (a : Explained) (d : Comparison) → comparison_of a ≡ d → is_later d ≡ says_later a
said_later a d e = sym (ap is_later e) ∙ says_same a
