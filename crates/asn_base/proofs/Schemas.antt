-- A schema with one more type, and what its types are.
use Rattle.std.proofs.Common.{arith, ◌≡◌, ℕ, zero, suc, ◌<◌, ◌≤◌, Bool, true, false, List, [], ◌∷◌, ◌++◌, length, refl, sym, ap, subst, ◌∙◌}
use Rattle.std.proofs.lemmas.Int.{ints}
use Rattle.std.specs.Prelude.{ℤ, pos, negsuc, ◌≤ℤ◌, Option, Some, None, slice_get, IsSomeAnd}
use Rattle.std.specs.List.{AllByRecursion}
use Rattle.asn_base.specs.declared.tag.Tag.{Tag}
use Rattle.asn_base.specs.Abstract.{AbstractValue, Row}
use Rattle.asn_base.specs.Types.{any_number, any_size, Kind, a_boolean, an_integer, an_enumerated, a_bit_string, a_named_bit_string, an_octet_string, a_null, an_object_identifier, a_relative_oid, a_utf8_string, a_restricted_string, a_sequence, a_set, a_sequence_of, a_set_of, a_choice, Presence, mandatory, optional, default, addition, Component, Resolved, Is}
use Rattle.asn_base.specs.Typed.{IsPrimitive, fits_boolean, fits_integer, fits_octets, ValueIn, value_in, ValueOf, of_leaf, of_sequence, of_set, of_sequence_of, of_set_of, of_choice, AreComponents, no_component, component_absent, component_present, nodes, row_nodes, IsValue}
use Rattle.asn_base.specs.Accepted.{IsSimple, IsSimpleMember, AreSimpleMembers, IsOfFirstStage, IsSimpleType, AllSimple}
use Rattle.asn_base.specs.Schemas.{AreBounds, IsNumber, IsSize, is_addition, HasValue, AreListed, IsSound, components, IsSchema}
use Rattle.asn_base.specs.Names.{IsMember, is_first, is_later}
use Rattle.asn_base.specs.Tags.{is_mandatory, RunsApart, HasDistinctTags, AllHaveDistinctTags, AllTagged}
use Rattle.asn_base.proofs.Lists.{at_place, all_mapped, all_append, found_still}
use Rattle.asn_base.proofs.Bounding.{below, above}

member_still : (s : List Resolved) (r : Resolved) (c : Component) → IsSimpleMember s c → IsSimpleMember (s ++ (r ∷ [])) c
member_still s r c m = (m.0, found_still (λ q. IsSimple q.kind) s r c.type m.1)

kind_still : (s : List Resolved) (r : Resolved) (k : Kind) → IsOfFirstStage s k → IsOfFirstStage (s ++ (r ∷ [])) k
kind_still s r a_boolean a = a
kind_still s r (an_integer c) a = a
kind_still s r (an_enumerated root e more) a = a
kind_still s r (a_bit_string c) a = a
kind_still s r (a_named_bit_string ns) a = a
kind_still s r (an_octet_string c) a = a
kind_still s r a_null a = a
kind_still s r an_object_identifier a = a
kind_still s r a_relative_oid a = a
kind_still s r (a_utf8_string c) a = a
kind_still s r (a_restricted_string k al c) a = a
kind_still s r (a_sequence e cs) a = (a.0, record { few = a.1.few; names = a.1.names; members = all_mapped (IsSimpleMember s) (IsSimpleMember (s ++ (r ∷ []))) (member_still s r) cs a.1.members })
kind_still s r (a_set e cs) a = a
kind_still s r (a_sequence_of c u) a = a
kind_still s r (a_set_of c u) a = a
kind_still s r (a_choice root e more) a = a

pub type_still : (s : List Resolved) (r q : Resolved) → IsSimpleType s q → IsSimpleType (s ++ (r ∷ [])) q
type_still s r q a = record { tagged = a.tagged; few_tags = a.few_tags; kind = kind_still s r q.kind a.kind }

pub grows : (s : List Resolved) (r : Resolved) → AllSimple s → IsSimpleType s r → AllSimple (s ++ (r ∷ []))
grows s r a b = all_append (IsSimpleType (s ++ (r ∷ []))) s r (all_mapped (IsSimpleType s) (IsSimpleType (s ++ (r ∷ []))) (type_still s r) s a) (type_still s r r b)

-- the kind of a type that is found
pub kind_of_type : {s : List Resolved} {t : ℕ} {tags : List Tag} {k : Kind} → AllSimple s → Is s t tags k → IsOfFirstStage s k
kind_of_type {s} {t} a i = (at_place (IsSimpleType s) s t _ i.found a).kind

kind_found : {o : Option Resolved} {r : Resolved} → o ≡ Some r → IsSomeAnd o (λ q. IsSimple q.kind) → IsSimple r.kind
kind_found {o} {r} e h = subst (λ q. IsSomeAnd q (λ p. IsSimple p.kind)) e h

leaf_nodes : {k : Kind} {v : AbstractValue} → IsPrimitive k v → IsSimple k → nodes v ≡ 1
leaf_nodes fits_boolean s = refl
leaf_nodes (fits_integer l a) s = refl
leaf_nodes (fits_octets l a) s = refl
leaf_nodes f s = absurd s

simple_nodes : {s : List Resolved} {n : ℕ} {k : Kind} {v : AbstractValue} → ValueOf s n k v → IsSimple k → nodes v ≡ 1
simple_nodes (of_leaf f) m = leaf_nodes f m
simple_nodes (of_sequence a g) m = absurd m
simple_nodes (of_set a g) m = absurd m
simple_nodes (of_sequence_of a z) m = absurd m
simple_nodes (of_set_of a z) m = absurd m
simple_nodes (of_choice g a) m = absurd m

member_nodes : {s : List Resolved} {n t : ℕ} {v : AbstractValue} → ValueIn s n t v → IsSomeAnd (slice_get s t) (λ q. IsSimple q.kind) → nodes v ≡ 1
member_nodes (value_in i a) h = simple_nodes a (kind_found i.found h)

rows_nodes : {s : List Resolved} {n : ℕ} {cs : List Component} {vs : Row} → AreComponents s n cs vs → AllByRecursion (IsSimpleMember s) cs → row_nodes vs ≤ length cs
rows_nodes no_component m = omega arith
rows_nodes (component_absent b a) m = let r = rows_nodes a m.1 in omega arith
rows_nodes (component_present v a) m = let e = member_nodes v m.0.1 in let r = rows_nodes a m.1 in omega arith

kind_nodes : {s : List Resolved} {n : ℕ} {k : Kind} {v : AbstractValue} → ValueOf s n k v → IsOfFirstStage s k → nodes v ≤ 257
kind_nodes {k = a_boolean} a m = let e = simple_nodes a m in omega arith
kind_nodes {k = an_integer c} a m = let e = simple_nodes a m in omega arith
kind_nodes {k = an_octet_string c} a m = let e = simple_nodes a m in omega arith
kind_nodes {k = a_sequence e cs} (of_sequence a g) m = let r = rows_nodes a m.1.members in let l : length cs ≤ 256 = m.1.few in omega arith
kind_nodes {k = a_sequence e cs} (of_leaf f) m = elim f [ ]
kind_nodes {k = k} a m = absurd m

pub few_nodes : (s : List Resolved) (n t : ℕ) (v : AbstractValue) → AllSimple s → ValueIn s n t v → nodes v ≤ 257
few_nodes s n t v a (value_in i b) = kind_nodes b (kind_of_type a i)

pub is_value : (s : List Resolved) (t : ℕ) (v : AbstractValue) → AllSimple s → ValueIn s 64 t v → IsValue s t v
is_value s t v a b = record { shaped = b; few_nodes = let l = few_nodes s 64 t v a b in omega arith }

pub all_tagged : (s : List Resolved) → AllSimple s → AllTagged s
all_tagged s a t k i =
    let some = (at_place (IsSimpleType s) s t _ i.found a).tagged in absurd (omega arith)

must_stand : (c : Component) → c.presence ≡ mandatory → is_mandatory c ≡ false → ⊥
must_stand c e f = let g : true ≡ false = ap mandatory_is (sym e) ∙ f in cc
  where
    mandatory_is : Presence → Bool
    mandatory_is mandatory = true
    mandatory_is optional = false
    mandatory_is (default d) = false
    mandatory_is (addition o g) = false

runs_apart : (s : List Resolved) (cs : List Component) → AllByRecursion (IsSimpleMember s) cs → RunsApart s cs
runs_apart s [] a = tt
runs_apart s (c ∷ cs) a = ((λ f. absurd (must_stand c a.0.0 f)), runs_apart s cs a.1)

kind_distinct : (s : List Resolved) (k : Kind) → IsOfFirstStage s k → HasDistinctTags s k
kind_distinct s (a_sequence e cs) a = runs_apart s cs a.1.members
kind_distinct s (a_set e cs) a = absurd a
kind_distinct s (a_choice root e more) a = absurd a
kind_distinct s k a = tt

pub all_tags_distinct : (s : List Resolved) → AllSimple s → AllHaveDistinctTags s
all_tags_distinct s a t tags k i = kind_distinct s k (kind_of_type a i)

-- ---- what today's types keep is what a schema keeps

pub all_numbers : AreBounds IsNumber any_number
all_numbers = record {
  root = None;
  least = λ l f. let b = below l in b.1 (f b.0 (tt, tt));
  greatest = λ g f. let b = above g in b.1 (f b.0 (tt, tt));
  not_extensible = λ e. refl;
  extensible = λ e. refl;
}

pub all_sizes : AreBounds IsSize any_size
all_sizes = record {
  root = None;
  least = ((tt, tt), at_least_0);
  greatest = no_greatest;
  not_extensible = λ e. refl;
  extensible = λ e. refl;
}
  where
    at_least_0 : (z : ℤ) → IsSize z × Unit {0} → pos 0 ≤ℤ z
    at_least_0 (pos n) h = omega (arith, ints)
    at_least_0 (negsuc n) h = absurd h.0

    no_greatest : (g : ℤ) → ((z : ℤ) → IsSize z × Unit {0} → z ≤ℤ g) → ⊥
    no_greatest (pos n) f = let h = f (pos (suc n)) (tt, tt) in omega (arith, ints)
    no_greatest (negsuc n) f = let h = f (pos 0) (tt, tt) in omega (arith, ints)

pub nil_right : {A : Type 0} (xs : List A) → xs ≡ xs ++ []
nil_right [] = refl
nil_right (x ∷ xs) = ap (λ q. x ∷ q) (nil_right xs)

no_addition : (c : Component) → c.presence ≡ mandatory → is_addition c ≡ false
no_addition c e = ap addition_is e
  where
    addition_is : Presence → Bool
    addition_is mandatory = false
    addition_is optional = false
    addition_is (default d) = false
    addition_is (addition o g) = true

no_default : {p : Presence} {d : AbstractValue} → p ≡ mandatory → p ≡ default d → ⊥
no_default e f = subst IsMandatory (sym e ∙ f) tt
  where
    IsMandatory : Presence → Type 0
    IsMandatory mandatory = Unit {0}
    IsMandatory optional = ⊥
    IsMandatory (default d) = ⊥
    IsMandatory (addition o g) = ⊥

found_below : {A : Type 0} (P : A → Type 0) (xs : List A) (i : ℕ) → IsSomeAnd (slice_get xs i) P → i < length xs
found_below P [] i h = absurd h
found_below P (x ∷ xs) zero h = omega arith
found_below P (x ∷ xs) (suc i) h = let r = found_below P xs i h in omega arith

listed : (s : List Resolved) (cs : List Component) → AreSimpleMembers s cs → AreListed s false cs
listed s cs a = record {
  root = cs;
  more = [];
  parts = nil_right cs;
  in_root = all_mapped (IsSimpleMember s) (λ c. is_addition c ≡ false) (λ c m. no_addition c m.0) cs a.members;
  behind = tt;
  groups = tt;
  marked = λ e. refl;
  few_root = a.few;
  few_more = omega arith;
  names = a.names;
  types = all_mapped (IsSimpleMember s) (λ c. c.type < length s) (λ c m. found_below (λ r. IsSimple r.kind) s c.type m.1) cs a.members;
  defaults = all_mapped (IsSimpleMember s) (HasValue s) (λ c m d e. absurd (no_default m.0 e)) cs a.members;
}

kind_sound : (s : List Resolved) (k : Kind) → IsOfFirstStage s k → IsSound s k
kind_sound s a_boolean a = tt
kind_sound s (an_integer c) a = subst (AreBounds IsNumber) (sym a) all_numbers
kind_sound s (an_octet_string c) a = subst (AreBounds IsSize) (sym a) all_sizes
kind_sound s (a_sequence e cs) a = subst (λ q. AreListed s q cs) (sym a.0) (listed s cs a.1)
kind_sound s k a = absurd a

stands_simple : (s : List Resolved) {c : Component} (cs : List Component) → IsMember c cs → AllByRecursion (IsSimpleMember s) cs → c.presence ≡ mandatory
stands_simple s [] m a = elim m [ ]
stands_simple s (c ∷ cs) is_first a = a.0.0
stands_simple s (c ∷ cs) (is_later m) a = stands_simple s cs m a.1

kind_circle : (s : List Resolved) {c : Component} (k : Kind) → IsOfFirstStage s k → IsMember c (components k) → c.presence ≡ mandatory
kind_circle s (a_sequence e cs) a m = stands_simple s cs m a.1.members
kind_circle s a_boolean a m = elim m [ ]
kind_circle s (an_integer n) a m = elim m [ ]
kind_circle s (an_octet_string n) a m = elim m [ ]
kind_circle s k a m = absurd a

pub is_schema : (s : List Resolved) → AllSimple s → IsSchema s
is_schema s a = record {
  tagged = all_tagged s a;
  distinct_tags = all_tags_distinct s a;
  few_tags = λ t tags k i. (at_place (IsSimpleType s) s t _ i.found a).few_tags;
  sound = λ t tags k i. kind_sound s k (kind_of_type a i);
  no_circle = λ t i. no_default (kind_circle s i.kind (kind_of_type a i.is) i.stands) i.has_default;
}
