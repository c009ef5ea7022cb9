-- Worked rows: what the definitions say of small tables.
use Rattle.std.proofs.Common.{◌≡◌, ℕ, zero, suc, ◌<◌, Bool, List, [], ◌∷◌, map, Option, Some, None, refl, sym, arith, true, false, subst, inr}
use Rattle.std.specs.Prelude.{slice_get}
use Rattle.asn_base.specs.declared.tag.Class.TheVariants.{Universal, Context}
use Rattle.asn_base.specs.declared.tag.Tag.{Tag}
use Rattle.trees.specs.declared.types.Keyword.{Keyword}
use Rattle.trees.specs.declared.types.Keyword.TheVariants as word
use Rattle.trees.specs.declared.module.TagDefault.{TagDefault}
use Rattle.trees.specs.declared.module.TagDefault.TheVariants as tags
use Rattle.trees.specs.Types.{PresenceTree, mandatory, optional, a_boolean, an_integer, a_bit_string, an_octet_string, a_null, an_object_identifier, a_relative_oid, an_enumerated, a_utf8_string, a_restricted_string}
use Rattle.trees.specs.declared.types.Standing.TheVariants.{Root, Addition}
use Rattle.asn_base.specs.declared.strings.StringKind.TheVariants.{Numeric, Printable, Ia5, Visible}
use Rattle.trees.specs.declared.types.ListKind.{ListKind}
use Rattle.trees.specs.declared.types.ListKind.TheVariants.{Sequence, Set, Choice}
use Rattle.trees.specs.declared.types.ElementsKind.TheVariants.{SequenceOf, SetOf}
use Rattle.type_table.specs.Table.{Part, Type', WrittenKind, simple, reference, tagged, members, elements, IsWrittenType}
use Rattle.tagging.specs.declared.path.TagForm.TheVariants.{Implicit, Explicit}
use Rattle.tagging.specs.Tags.{Label, Path, own, core, target, inside, Tags, as_written, numbered, none_written, one_more, bears_tag, automatic}
use Rattle.tagging.specs.First.{CanBeFirst, is_added_member, member_can_be_absent, outermost, alternative, Together}
use Rattle.tagging.specs.Tagged.{Bears, IsOverfull, IsImplicit, IsUntagged, IsMixed, HasClash}
use Rattle.names.specs.Faults.{fault_module, fault_name}
use Rattle.trees.specs.declared.location.SourceLocation.{SourceLocation}
use Rattle.type_table.specs.FirstInList.{IsSameLocation}
use Rattle.tagging.specs.declared.fault.TagFault.TheVariants as faults
use Rattle.tagging.specs.declared.fault.Limit.{Limit}
use Rattle.tagging.specs.FirstFault.{ReportOneRule}

-- a type of a table, which is in a module with this tag default
abbrev written : WrittenKind → TagDefault → Option (ℕ × ℕ) → Type'
written k d p = record { kind = k; constraints = []; default = d; place = p; assignment = 0 }

abbrev part : ℕ → PresenceTree → Part
part i o = record { name = []; ty = i; presence = o; standing = Root }

abbrev addition : ℕ → PresenceTree → Option ℕ → Part
addition i o g = record { name = []; ty = i; presence = o; standing = Addition g }

here : {ts : List Type'} {i : ℕ} {k : WrittenKind} {d : TagDefault} {p : Option (ℕ × ℕ)} →
    slice_get ts i ≡ Some (written k d p) → IsWrittenType ts i k d p
here e = record { constraints = []; assignment = 0; found = e }

abbrev context : (n : ℕ) → n < 2147483648 → Tag
context n l = record { class = Context; number = n; in_range = l; not_reserved = λ e. absurd cc }

abbrev int : WrittenKind
int = simple (an_integer [])

below_0 : 0 < 2147483648
below_0 = omega arith

below_1 : 1 < 2147483648
below_1 = omega arith

below_2 : 2 < 2147483648
below_2 = omega arith

abbrev universal : ℕ → Option Path
universal n = Some (((Universal, n), Explicit) ∷ [])

-- a type's own tag
own_tags : map own (
    simple a_boolean ∷ int ∷ simple (a_bit_string []) ∷ simple an_octet_string ∷ simple a_null ∷ simple an_object_identifier
    ∷ simple (an_enumerated [] None) ∷ simple a_utf8_string ∷ simple a_relative_oid
    ∷ members Sequence false [] ∷ elements SequenceOf 0 ∷ members Set false [] ∷ elements SetOf 0
    ∷ simple (a_restricted_string Numeric) ∷ simple (a_restricted_string Printable)
    ∷ simple (a_restricted_string Ia5) ∷ simple (a_restricted_string Visible) ∷ [])
    ≡ map universal (1 ∷ 2 ∷ 3 ∷ 4 ∷ 5 ∷ 6 ∷ 10 ∷ 12 ∷ 13 ∷ 16 ∷ 16 ∷ 17 ∷ 17 ∷ 18 ∷ 19 ∷ 22 ∷ 26 ∷ [])
own_tags = refl

own_choice : own (members Choice false []) ≡ Some []
own_choice = refl

-- [1] IMPLICIT [2] IMPLICIT NULL
abbrev one_two : List Type'
one_two = written (tagged (context 1 below_1) word.Implicit 1) tags.Explicit None ∷ written (tagged (context 2 below_2) word.Implicit 2) tags.Explicit None ∷ written (simple a_null) tags.Explicit None ∷ []

one_two_tags : Tags one_two 0 (((Context, 1), Implicit) ∷ ((Context, 2), Implicit) ∷ ((Universal, 5), Explicit) ∷ [])
one_two_tags = as_written refl (inside (here refl) (inside (here refl) (core (here refl) refl) refl) refl)

-- type 0 is this list, of which the members at p and q clash
clash_of : {ts : List Type'} {k : ListKind} {m : Bool} {cs : List Part} {d : TagDefault} {a b : Part} {t : Label}
    (p q : ℕ) → IsWrittenType ts 0 (members k m cs) d None → p < q → slice_get cs p ≡ Some a → slice_get cs q ≡ Some b →
    Together k cs p q → CanBeFirst ts a.ty t → CanBeFirst ts b.ty t → HasClash ts 0
clash_of p q is before at_first at_second together in_first in_second = record {
  kind = _;
  marker = _;
  cs = _;
  default = _;
  place = _;
  is = is;
  one = p;
  other = q;
  clash = record {
    first = _;
    second = _;
    tag = _;
    before = before;
    at_first = at_first;
    at_second = at_second;
    together = together;
    in_first = in_first;
    in_second = in_second;
  };
}

-- a type that is INTEGER has its tag first
integer_first : {ts : List Type'} {i : ℕ} {d : TagDefault} {p : Option (ℕ × ℕ)} →
    slice_get ts i ≡ Some (written int d p) →
    automatic ts i ≡ None → CanBeFirst ts i (Universal, 2)
integer_first e n = outermost (as_written n (core (here e) refl))

absent_as : (a c : Part) → Some a ≡ Some c → member_can_be_absent a ≡ true → member_can_be_absent c ≡ true
absent_as a c e t = let s : a ≡ c = cc in subst (λ x. member_can_be_absent x ≡ true) s t

-- SEQUENCE {a INTEGER OPTIONAL, b BOOLEAN OPTIONAL, c INTEGER}
abbrev run : List Part
run = part 1 optional ∷ part 2 optional ∷ part 3 mandatory ∷ []

abbrev run_types : TagDefault → List Type'
run_types d = written (members Sequence false run) d None ∷ written int d (Some (0, 0)) ∷ written (simple a_boolean) d (Some (0, 1)) ∷ written int d (Some (0, 2)) ∷ []

run_clash : HasClash (run_types tags.Explicit) 0
run_clash = clash_of 0 2 (here refl) (omega arith) refl refl both (integer_first refl refl) (integer_first refl refl)
  where
    both : Together Sequence run 0 2
    both zero c l m e = absent_as (part 1 optional) c e refl
    both (suc zero) c l m e = absent_as (part 2 optional) c e refl
    both (suc (suc r)) c l m e = absurd (omega arith)

-- SEQUENCE {a INTEGER OPTIONAL, b BOOLEAN, c INTEGER}: a and c are never next to one another
abbrev apart_run : List Part
apart_run = part 1 optional ∷ part 2 mandatory ∷ part 3 mandatory ∷ []

never_together : Together Sequence apart_run 0 2 → ⊥
never_together t = let e = t 1 (part 2 mandatory) (omega arith) (omega arith) refl in absurd cc

-- SEQUENCE {a INTEGER OPTIONAL, c CHOICE {x INTEGER, y NULL}}
abbrev choice_parts : List Part
choice_parts = part 3 mandatory ∷ part 4 mandatory ∷ []

abbrev with_choice : List Part
with_choice = part 1 optional ∷ part 2 mandatory ∷ []

abbrev choice_types : TagDefault → List Type'
choice_types d = written (members Sequence false with_choice) d None ∷ written int d (Some (0, 0)) ∷ written (members Choice false choice_parts) d (Some (0, 1)) ∷
    written int d (Some (2, 0)) ∷ written (simple a_null) d (Some (2, 1)) ∷ []

choice_clash : HasClash (choice_types tags.Explicit) 0
choice_clash = clash_of 0 1 (here refl) (omega arith) refl refl both (integer_first refl refl)
    (alternative 2 false choice_parts 0 (part 3 mandatory) (as_written refl (core (here refl) refl))
    (record { steps = 0; few = omega arith; chain = refl; ends = refl }) (here refl) refl (integer_first refl refl))
  where
    both : Together Sequence with_choice 0 1
    both zero c l m e = absent_as (part 1 optional) c e refl
    both (suc r) c l m e = absurd (omega arith)

-- SET {c CHOICE {x NULL}}
abbrev one_choice : List Part
one_choice = part 1 mandatory ∷ []

abbrev one_null : List Part
one_null = part 2 mandatory ∷ []

abbrev set_types : TagDefault → List Type'
set_types d = written (members Set false one_choice) d None ∷ written (members Choice false one_null) d (Some (0, 0)) ∷ written (simple a_null) d (Some (1, 0)) ∷ []

set_untagged : IsUntagged (set_types tags.Explicit) 1
set_untagged = record {
  list = 0;
  kind = Set;
  marker = false;
  cs = one_choice;
  default = tags.Explicit;
  place = None;
  is = here refl;
  within = inr refl;
  number = 0;
  member = part 1 mandatory;
  there = refl;
  at = refl;
  untagged = as_written refl (core (here refl) refl);
}

-- with AUTOMATIC TAGS the component c has context 0, explicit, and the alternative x context 0, implicit
set_automatic : Tags (set_types tags.Automatic) 1 (((Context, 0), Explicit) ∷ [])
set_automatic = numbered refl (core (here refl) refl) refl

set_automatic_null : Tags (set_types tags.Automatic) 2 (((Context, 0), Implicit) ∷ ((Universal, 5), Explicit) ∷ [])
set_automatic_null = numbered refl (core (here refl) refl) refl

-- with IMPLICIT TAGS: SET {a [0] NULL, b [0] BOOLEAN}
abbrev same_parts : List Part
same_parts = part 1 mandatory ∷ part 2 mandatory ∷ []

abbrev zero_tag : Tag
zero_tag = context 0 below_0

abbrev same_types : TagDefault → List Type'
same_types d = written (members Set false same_parts) d None ∷ written (tagged zero_tag word.Absent 3) d (Some (0, 0)) ∷ written (tagged zero_tag word.Absent 4) d (Some (0, 1)) ∷
    written (simple a_null) d None ∷ written (simple a_boolean) d None ∷ []

same_clash : HasClash (same_types tags.Implicit) 0
same_clash = clash_of 0 1 (here refl) (omega arith) refl refl tt
    (outermost (as_written refl (inside (here refl) (core (here refl) refl) refl)))
    (outermost (as_written refl (inside (here refl) (core (here refl) refl) refl)))

-- with AUTOMATIC TAGS too, since the members bear written tags
same_not_automatic : automatic (same_types tags.Automatic) 1 ≡ None
same_not_automatic = refl

-- [1] [2] [3] [4] [5] NULL
abbrev tag_before : ℕ → Type'
tag_before i = written (tagged zero_tag word.Absent i) tags.Explicit None

abbrev five : List Type'
five = tag_before 1 ∷ tag_before 2 ∷ tag_before 3 ∷ tag_before 4 ∷ tag_before 5 ∷ written (simple a_null) tags.Explicit None ∷ []

five_many : IsOverfull five 0
five_many = record {
  count = 5;
  counts = one_more (here refl) (one_more (here refl) (one_more (here refl) (one_more (here refl) (one_more (here refl) (none_written (here refl) refl)))));
  many = omega arith;
}

-- SEQUENCE {a INTEGER OPTIONAL, b INTEGER}, with AUTOMATIC TAGS: context 0 and 1
abbrev pair : List Part
pair = part 1 optional ∷ part 2 mandatory ∷ []

abbrev pair_types : TagDefault → List Type'
pair_types d = written (members Sequence false pair) d None ∷ written int d (Some (0, 0)) ∷ written int d (Some (0, 1)) ∷ []

pair_first : Tags (pair_types tags.Automatic) 1 (((Context, 0), Implicit) ∷ ((Universal, 2), Explicit) ∷ [])
pair_first = numbered refl (core (here refl) refl) refl

pair_second : Tags (pair_types tags.Automatic) 2 (((Context, 1), Implicit) ∷ ((Universal, 2), Explicit) ∷ [])
pair_second = numbered refl (core (here refl) refl) refl

-- C ::= CHOICE {a NULL, b BOOLEAN}, T ::= [0] C with a word or none: type 0 is T, type 1 the reference to C
abbrev choice_tagged : Keyword → TagDefault → List Type'
choice_tagged k d = written (tagged zero_tag k 1) d None ∷ written (reference 2) d None ∷ written (members Choice false choice_parts) d None ∷
    written (simple a_null) d (Some (2, 0)) ∷ written (simple a_boolean) d (Some (2, 1)) ∷ []

through_reference : IsImplicit (choice_tagged word.Implicit tags.Explicit) 0
through_reference = record { tag = zero_tag; inner = 1; default = tags.Explicit; place = None; is = here refl; untagged = target (here refl) (core (here refl) refl) }

explicit_there : Tags (choice_tagged word.Absent tags.Implicit) 0 (((Context, 0), Explicit) ∷ [])
explicit_there = as_written refl (inside (here refl) (target (here refl) (core (here refl) refl)) refl)

-- a tag after the reference: no untagged CHOICE
passing_a_tag :
    Tags
    (tag_before 1 ∷ written (reference 2) tags.Explicit None ∷ written
    (tagged zero_tag word.Implicit 3) tags.Explicit None ∷ written int tags.Explicit None ∷ []) 0
    (((Context, 0), Explicit) ∷ ((Context, 0), Implicit) ∷ ((Universal, 2), Explicit) ∷ [])
passing_a_tag = as_written refl (inside (here refl) (target (here refl) (inside (here refl) (core (here refl) refl) refl)) refl)

-- SEQUENCE {a INTEGER OPTIONAL, ..., b INTEGER}
abbrev extended : List Part
extended = part 1 optional ∷ addition 2 mandatory None ∷ []

abbrev extended_types : TagDefault → List Type'
extended_types d = written (members Sequence true extended) d None ∷ written int d (Some (0, 0)) ∷ written int d (Some (0, 1)) ∷ []

extended_clash : HasClash (extended_types tags.Explicit) 0
extended_clash = clash_of 0 1 (here refl) (omega arith) refl refl both (integer_first refl refl) (integer_first refl refl)
  where
    both : Together Sequence extended 0 1
    both zero c l m e = absent_as (part 1 optional) c e refl
    both (suc r) c l m e = absurd (omega arith)

-- SEQUENCE {a INTEGER, ..., b INTEGER, c INTEGER}: a is before all additions, but b may be absent
abbrev after_mandatory : List Part
after_mandatory = part 1 mandatory ∷ addition 2 mandatory None ∷ addition 3 mandatory None ∷ []

root_apart : Together Sequence after_mandatory 0 1 → ⊥
root_apart t = let e = t 0 (part 1 mandatory) (omega arith) (omega arith) refl in absurd cc

additions_together : Together Sequence after_mandatory 1 2
additions_together zero c l m e = absurd (omega arith)
additions_together (suc zero) c l m e = absent_as (addition 2 mandatory None) c e refl
additions_together (suc (suc r)) c l m e = absurd (omega arith)

-- with AUTOMATIC TAGS: SEQUENCE {a BOOLEAN, ..., [[ b INTEGER, c NULL OPTIONAL ]]}: context 0, 1 and 2
abbrev bracketed : List Part
bracketed = part 1 mandatory ∷ addition 2 mandatory (Some 0) ∷ addition 3 optional (Some 0) ∷ []

abbrev bracketed_types : List Type'
bracketed_types = written (members Sequence true bracketed) tags.Automatic None ∷ written (simple a_boolean) tags.Automatic (Some (0, 0)) ∷
    written int tags.Automatic (Some (0, 1)) ∷ written (simple a_null) tags.Automatic (Some (0, 2)) ∷ []

bracketed_first : Tags bracketed_types 1 (((Context, 0), Implicit) ∷ ((Universal, 1), Explicit) ∷ [])
bracketed_first = numbered refl (core (here refl) refl) refl

bracketed_second : Tags bracketed_types 2 (((Context, 1), Implicit) ∷ ((Universal, 2), Explicit) ∷ [])
bracketed_second = numbered refl (core (here refl) refl) refl

bracketed_third : Tags bracketed_types 3 (((Context, 2), Implicit) ∷ ((Universal, 5), Explicit) ∷ [])
bracketed_third = numbered refl (core (here refl) refl) refl

-- with AUTOMATIC TAGS: SEQUENCE {a NULL, ..., b [0] NULL}
abbrev mixed : List Part
mixed = part 1 mandatory ∷ addition 2 mandatory None ∷ []

abbrev mixed_types : List Type'
mixed_types = written (members Sequence true mixed) tags.Automatic None ∷ written (simple a_null) tags.Automatic (Some (0, 0)) ∷
    written (tagged zero_tag word.Absent 3) tags.Automatic (Some (0, 1)) ∷ written (simple a_null) tags.Automatic None ∷ []

mixed_refused : IsMixed mixed_types 0
mixed_refused = record {
  kind = Sequence;
  marker = true;
  cs = mixed;
  place = None;
  is = here refl;
  additions = record { number = 1; member = addition 2 mandatory None; there = refl; is_so = refl; bears = refl };
  root = λ r. none_bears r.number r.member r.there r.is_so r.bears;
}
  where
    none_bears : (n : ℕ) (c : Part) → slice_get mixed n ≡ Some c → is_added_member c.standing ≡ false →
        bears_tag (slice_get mixed_types c.ty) ≡ true → ⊥
    none_bears zero c e f g = let s : part 1 mandatory ≡ c = cc in let h = subst (λ x. bears_tag (slice_get mixed_types x.ty) ≡ true) (sym s) g in absurd cc
    none_bears (suc zero) c e f g = let s : addition 2 mandatory None ≡ c = cc in let h = subst (λ x. is_added_member x.standing ≡ false) (sym s) f in absurd cc
    none_bears (suc (suc n)) c e f g = absurd cc

-- if a member of the root bears a tag too, the list isn't tagged automatically, and breaks no rule
abbrev both_bear : List Part
both_bear = part 1 mandatory ∷ addition 2 mandatory None ∷ []

abbrev both_types : List Type'
both_types = written (members Sequence true both_bear) tags.Automatic None ∷ written (tagged zero_tag word.Absent 3) tags.Automatic (Some (0, 0)) ∷
    written (tagged zero_tag word.Absent 3) tags.Automatic (Some (0, 1)) ∷ written (simple a_null) tags.Automatic None ∷ []

both_not_automatic : automatic both_types 2 ≡ None
both_not_automatic = refl

both_root : Bears both_types both_bear false
both_root = record { number = 0; member = part 1 mandatory; there = refl; is_so = refl; bears = refl }

-- SEQUENCE {a OBJECT IDENTIFIER OPTIONAL, b RELATIVE-OID}: two tags
abbrev two_oids : List Part
two_oids = part 1 optional ∷ part 2 mandatory ∷ []

abbrev oid_types : List Type'
oid_types = written (members Sequence false two_oids) tags.Explicit None ∷ written (simple an_object_identifier) tags.Explicit (Some (0, 0)) ∷
    written (simple a_relative_oid) tags.Explicit (Some (0, 1)) ∷ []

absolute_first : Tags oid_types 1 (((Universal, 6), Explicit) ∷ [])
absolute_first = as_written refl (core (here refl) refl)

relative_first : Tags oid_types 2 (((Universal, 13), Explicit) ∷ [])
relative_first = as_written refl (core (here refl) refl)

-- two faults that report one rule at one spot have one rule and one place
one_limit : (l k : Limit) (s t : SourceLocation) →
    ReportOneRule IsSameLocation (faults.Limit l s) (faults.Limit k t) →
    (l ≡ k) × (s.at ≡ t.at)
one_limit l k s t h = (h.0, h.1.2)

one_clash : (s t : SourceLocation) → ReportOneRule IsSameLocation (faults.TagClash s) (faults.TagClash t) → s.at ≡ t.at
one_clash s t h = h.2

one_implicit : (s t : SourceLocation) →
    ReportOneRule IsSameLocation (faults.ImplicitChoice s) (faults.ImplicitChoice t) →
    s.at ≡ t.at
one_implicit s t h = h.2

one_untagged : (s t : SourceLocation) →
    ReportOneRule IsSameLocation (faults.UntaggedChoice s) (faults.UntaggedChoice t) →
    s.at ≡ t.at
one_untagged s t h = h.2

one_mixed : (s t : SourceLocation) →
    ReportOneRule IsSameLocation (faults.MixedAutomatic s) (faults.MixedAutomatic t) →
    s.at ≡ t.at
one_mixed s t h = h.2

two_rules : (s t : SourceLocation) →
    ReportOneRule IsSameLocation (faults.TagClash s) (faults.UntaggedChoice t) → ⊥
two_rules s t h = h
