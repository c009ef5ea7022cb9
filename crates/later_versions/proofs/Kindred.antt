-- What differs in two kinds, kind by kind, if both kinds are known by equations.
use Rattle.std.proofs.Common.{◌≡◌, ℕ, List, map, refl, sym, subst, Bool, false, Some, None}
use Rattle.std.specs.Prelude.{◌↔◌, IsTrue, MatchOption, Option}
use Rattle.asn_base.specs.declared.strings.StringKind.{StringKind}
use Rattle.asn_base.specs.Types.{Alternative, Component, Constraint, Item, Kind, Resolved, an_integer, an_enumerated, a_bit_string, an_octet_string, a_utf8_string, a_restricted_string, a_sequence, a_set, a_sequence_of, a_set_of, a_choice}
use Rattle.asn_base.specs.Schemas.{IsNumber, IsSize}
use Rattle.later_versions.specs.Later.{AreLater, IsFront, IsLaterKind, LeaveSame, later_integer, later_enumerated, later_bit_string, later_octet_string, later_utf8_string, later_restricted_string, later_sequence, later_set, later_sequence_of, later_set_of, later_choice}
use Rattle.later_versions.specs.Differences.{ComponentsDiffer, ConstraintDiffers, IsOneKind, KindDiffers, ListsDiffer, two_restricted_strings, other_alphabet, other_kind, other_integer, other_enumerated, other_bit_string, other_octet_string, other_utf8_string, other_restricted_string, other_sequence, other_set, other_sequence_of, other_set_of, other_choice}
use Rattle.later_versions.specs.declared.reason.Reason.{Reason}
use Rattle.later_versions.specs.declared.reason.Reason.TheVariants.{Alphabet, Kind as Kind', Numbers, Sizes}

pub by_equal : (P : Kind → Kind → Type 0) {k l : Kind} (k' l' : Kind) → k ≡ k' → l ≡ l' → P k' l' → P k l
by_equal P {k} {l} k' l' e f h = subst (λ x. P x l) (sym e) (subst (λ x. P k' x) (sym f) h)

-- either the second kind can be that of a later version, or both differ by the reason
abbrev pub IsJudged : List Resolved → Option Reason → Kind → Kind → Type 0
IsJudged s o k l = MatchOption o (IsLaterKind s k l) (KindDiffers s k l)

pub of_integer : (s : List Resolved) (c d : Constraint) (o : Option Reason)
    → MatchOption o (LeaveSame IsNumber c d) (ConstraintDiffers IsNumber Numbers c d)
    → IsJudged s o (an_integer c) (an_integer d)
of_integer s c d None h = later_integer h
of_integer s c d (Some e) h = other_integer h

pub of_bit_string : (s : List Resolved) (c d : Constraint) (o : Option Reason)
    → MatchOption o (LeaveSame IsSize c d) (ConstraintDiffers IsSize Sizes c d)
    → IsJudged s o (a_bit_string c) (a_bit_string d)
of_bit_string s c d None h = later_bit_string h
of_bit_string s c d (Some e) h = other_bit_string h

pub of_octet_string : (s : List Resolved) (c d : Constraint) (o : Option Reason)
    → MatchOption o (LeaveSame IsSize c d) (ConstraintDiffers IsSize Sizes c d)
    → IsJudged s o (an_octet_string c) (an_octet_string d)
of_octet_string s c d None h = later_octet_string h
of_octet_string s c d (Some e) h = other_octet_string h

pub of_utf8_string : (s : List Resolved) (c d : Constraint) (o : Option Reason)
    → MatchOption o (LeaveSame IsSize c d) (ConstraintDiffers IsSize Sizes c d)
    → IsJudged s o (a_utf8_string c) (a_utf8_string d)
of_utf8_string s c d None h = later_utf8_string h
of_utf8_string s c d (Some e) h = other_utf8_string h

pub of_sequence_of : (s : List Resolved) (c d : Constraint) (u v : ℕ) (o : Option Reason)
    → MatchOption o (LeaveSame IsSize c d) (ConstraintDiffers IsSize Sizes c d)
    → IsJudged s o (a_sequence_of c u) (a_sequence_of d v)
of_sequence_of s c d u v None h = later_sequence_of h
of_sequence_of s c d u v (Some e) h = other_sequence_of h

pub of_set_of : (s : List Resolved) (c d : Constraint) (u v : ℕ) (o : Option Reason)
    → MatchOption o (LeaveSame IsSize c d) (ConstraintDiffers IsSize Sizes c d)
    → IsJudged s o (a_set_of c u) (a_set_of d v)
of_set_of s c d u v None h = later_set_of h
of_set_of s c d u v (Some e) h = other_set_of h

pub of_restricted_string : (s : List Resolved) (k j : StringKind) (xs ys : List ℕ) (c d : Constraint) (o : Option Reason)
    → k ≡ j
    → xs ≡ ys
    → MatchOption o (LeaveSame IsSize c d) (ConstraintDiffers IsSize Sizes c d)
    → IsJudged s o (a_restricted_string k xs c) (a_restricted_string j ys d)
of_restricted_string s k j xs ys c d o e f h =
    subst (λ x. IsJudged s o (a_restricted_string k xs c) (a_restricted_string x ys d)) e
    (subst (λ x. IsJudged s o (a_restricted_string k xs c) (a_restricted_string k x d)) f (same o h))
  where
    same : (o : Option Reason)
        → MatchOption o (LeaveSame IsSize c d) (ConstraintDiffers IsSize Sizes c d)
        → IsJudged s o (a_restricted_string k xs c) (a_restricted_string k xs d)
    same None h = later_restricted_string h
    same (Some e) h = other_restricted_string h

pub of_sequence : (s : List Resolved) (e f : Bool) (cs ds : List Component) (o : Option Reason)
    → e ≡ f
    → MatchOption o (AreLater s cs ds) (ComponentsDiffer s cs ds)
    → IsJudged s o (a_sequence e cs) (a_sequence f ds)
of_sequence s e f cs ds o q h = subst (λ x. IsJudged s o (a_sequence e cs) (a_sequence x ds)) q (same o h)
  where
    same : (o : Option Reason)
        → MatchOption o (AreLater s cs ds) (ComponentsDiffer s cs ds)
        → IsJudged s o (a_sequence e cs) (a_sequence e ds)
    same None h = later_sequence h
    same (Some r) h = other_sequence h

pub of_set : (s : List Resolved) (e f : Bool) (cs ds : List Component) (o : Option Reason)
    → e ≡ f
    → MatchOption o (AreLater s cs ds) (ComponentsDiffer s cs ds)
    → IsJudged s o (a_set e cs) (a_set f ds)
of_set s e f cs ds o q h = subst (λ x. IsJudged s o (a_set e cs) (a_set x ds)) q (same o h)
  where
    same : (o : Option Reason)
        → MatchOption o (AreLater s cs ds) (ComponentsDiffer s cs ds)
        → IsJudged s o (a_set e cs) (a_set e ds)
    same None h = later_set h
    same (Some r) h = other_set h

pub of_enumerated : (s : List Resolved) (e f : Bool) (root others more all : List Item) (o : Option Reason)
    → MatchOption o ((e ≡ f) × (root ≡ others) × IsFront (λ i j. i ≡ j) more all) (ListsDiffer (λ i j. i ≡ j) e root more f others all)
    → IsJudged s o (an_enumerated root e more) (an_enumerated others f all)
of_enumerated s e f root others more all None h =
    subst (λ x. IsLaterKind s (an_enumerated root e more) (an_enumerated others x all)) h.0
    (subst (λ x. IsLaterKind s (an_enumerated root e more) (an_enumerated x e all)) h.1 (later_enumerated h.2))
of_enumerated s e f root others more all (Some r) h = other_enumerated h

pub of_choice : (s : List Resolved) (e f : Bool) (root others more all : List Alternative) (o : Option Reason)
    → MatchOption o ((e ≡ f) × (map (λ a. a.name) root ≡ map (λ a. a.name) others) × IsFront (λ a b. a.name ≡ b.name) more all) (ListsDiffer (λ a b. a.name ≡ b.name) e root more f others all)
    → IsJudged s o (a_choice root e more) (a_choice others f all)
of_choice s e f root others more all None h =
    subst (λ x. IsLaterKind s (a_choice root e more) (a_choice others x all)) h.0 (later_choice h.1 h.2)
of_choice s e f root others more all (Some r) h = other_choice h

-- kinds that are not one
pub by_kind : (s : List Resolved) (k l : Kind) → IsTrue false ↔ IsOneKind k l → KindDiffers s k l Kind'
by_kind s k l h = other_kind (λ o. absurd (let e = h.1 o in cc))

pub one_string_kind : {k j : StringKind} {xs ys : List ℕ} {c d : Constraint} {l : Kind}
    → l ≡ a_restricted_string j ys d
    → IsOneKind (a_restricted_string k xs c) l
    → k ≡ j
one_string_kind {k = k} {j = j} {xs = xs} {ys = ys} {c = c} {d = d} e o = both (subst (IsOneKind (a_restricted_string k xs c)) e o)
  where
    both : {k j : StringKind} {xs ys : List ℕ} {c d : Constraint} → IsOneKind (a_restricted_string k xs c) (a_restricted_string j ys d) → k ≡ j
    both two_restricted_strings = refl

pub other_codes : (s : List Resolved) {k j : StringKind} {xs ys : List ℕ} {c d : Constraint} {l : Kind}
    → k ≡ j
    → l ≡ a_restricted_string j ys d
    → (xs ≡ ys → ⊥)
    → KindDiffers s (a_restricted_string k xs c) l Alphabet
other_codes s {k = k} {j = j} {xs = xs} {ys = ys} {c = c} {d = d} q e n =
    subst (λ x. KindDiffers s (a_restricted_string k xs c) x Alphabet) (sym e)
    (subst (λ x. KindDiffers s (a_restricted_string k xs c) (a_restricted_string x ys d) Alphabet) q (other_alphabet n))
