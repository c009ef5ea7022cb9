-- The types in a type of the schema, and where they are written.
use Rattle.std.proofs.Common.{◌≡◌, ℕ, zero, suc, ◌<◌, ◌≤◌, Bool, true, false, List, [], ◌∷◌, ◌++◌, length, Option, Some, None, refl, sym, ap, subst, ◌∙◌}
use Rattle.std.specs.Prelude.{ℤ, map, slice_get}
use Rattle.std.proofs.lemmas.Option.{same_Some, none-some}
use Rattle.asn_base.specs.Abstract.{AbstractValue}
use Rattle.asn_base.specs.Names.{IsMember, is_first, is_later}
use Rattle.asn_base.specs.Types.{Component, Alternative, Presence}
use Rattle.asn_base.specs.Types as types
use Rattle.asn_base.specs.Typed.{group_of}
use Rattle.asn_base.specs.Schemas.{components, types_in}
use Rattle.trees.specs.declared.types.ListKind.{ListKind}
use Rattle.trees.specs.declared.types.ListKind.TheVariants.{Sequence, Set, Choice}
use Rattle.trees.specs.declared.types.ElementsKind.TheVariants.{SequenceOf, SetOf}
use Rattle.trees.specs.declared.types.Standing.TheVariants.{Root, Addition}
use Rattle.trees.specs.Values.{Name, Tree}
use Rattle.trees.specs.Types.{default}
use Rattle.type_table.specs.Table.{Part, WrittenKind, members, elements}
use Rattle.circles.specs.Circles.{IsPart, member, element}
use Rattle.resolve.specs.Program.{Program}
use Rattle.value_notations.specs.Notations.{Notation}
use Rattle.schema_of.specs.SchemaOf as schema_of
use Rattle.schema_of.specs.SchemaOf.{IsPresenceOf, is_mandatory, is_optional, has_default, is_addition, is_optional_addition, IsComponentOf, AreComponentsOf, no_component, component_and, IsAlternativeOf, AreAlternativesOf, no_alternative, root_and, addition_and, IsChosenPart, IsKindOf}
use Rattle.settled.proofs.Lists.{IsValueOf, value_of, place_of}

-- ---- components

-- component d of the schema is the one at this place of a written list
pub record IsWritten (p : Program) (M : Name) (cs : List Part) (n : ℕ) (d : Component) : Type 0 where
  pub part : Part
  pub there : slice_get cs n ≡ Some part
  pub alike : IsComponentOf p M part d

pub written_component : {p : Program} {M : Name} {cs : List Part} {ds : List Component} (n : ℕ) (d : Component) →
    AreComponentsOf p M cs ds → slice_get ds n ≡ Some d → IsWritten p M cs n d
written_component n d no_component e = absurd (none-some d e)
written_component {p} {M} zero d (component_and {c} {d = b} a as') e = record { part = c; there = refl; alike = subst (λ z. IsComponentOf p M c z) (same_Some b d e) a }
written_component (suc n) d (component_and a as') e = let r = written_component n d as' e in record { part = r.part; there = r.there; alike = r.alike }

-- ---- alternatives

pub written_alternative : {cs : List Part} {root more : List Alternative} (n : ℕ) (a : Alternative) →
    AreAlternativesOf cs root more → slice_get (root ++ more) n ≡ Some a → IsChosenPart cs n a
written_alternative n a no_alternative e = absurd (none-some a e)
written_alternative zero a (root_and {c} {a = b} f h hs) e = record { part = c; there = refl; alike = subst (λ z. IsAlternativeOf c z) (same_Some b a e) h }
written_alternative (suc n) a (root_and f h hs) e = let r = written_alternative n a hs e in record { part = r.part; there = r.there; alike = r.alike }
written_alternative zero a (addition_and {c} {a = b} g f h hs) e = record { part = c; there = refl; alike = subst (λ z. IsAlternativeOf c z) (same_Some b a e) h }
written_alternative (suc n) a (addition_and g f h hs) e = let r = written_alternative n a hs e in record { part = r.part; there = r.there; alike = r.alike }

-- ---- the types in a type

member_type : {p : Program} {M : Name} {l : ListKind} {m : Bool} {cs : List Part} (ds : List Component) (u : ℕ) →
    AreComponentsOf p M cs ds → IsMember u (map (λ d. d.type) ds) → IsPart u (members l m cs)
member_type ds u a h =
    let v = value_of (λ (d : Component). d.type) ds u h in
    let n = place_of v.argument ds v.member in
    let w = written_component n.0 v.argument a n.1 in
    member n.0 w.part w.there (sym w.alike.type ∙ v.same)

one_element : (u j : ℕ) → IsMember u (j ∷ []) → u ≡ j
one_element u j is_first = refl
one_element u j (is_later m) = elim m [ ]

-- the types in a type of the schema are in the written one
pub part_of : {p : Program} {A : ℕ → ℤ → Type 0} {C : ℕ → ℕ → Type 0} {i : ℕ} {M : Name} {K : WrittenKind} {k : types.Kind} (u : ℕ) → IsKindOf p A C i M K k → IsMember u (types_in k) → IsPart u K
part_of u schema_of.boolean h = elim h [ ]
part_of u (schema_of.integer f) h = elim h [ ]
part_of u (schema_of.enumerated f) h = elim h [ ]
part_of u (schema_of.bits f) h = elim h [ ]
part_of u (schema_of.named_bits f) h = elim h [ ]
part_of u (schema_of.octets f) h = elim h [ ]
part_of u schema_of.null h = elim h [ ]
part_of u schema_of.object_identifier h = elim h [ ]
part_of u schema_of.relative_oid h = elim h [ ]
part_of u (schema_of.utf8 f) h = elim h [ ]
part_of u (schema_of.restricted g f) h = elim h [ ]
part_of u (schema_of.sequence {ds} a) h = member_type ds u a h
part_of u (schema_of.set {ds} a) h = member_type ds u a h
part_of u (schema_of.sequence_of {j} f) h = subst (λ z. IsPart z (elements SequenceOf j)) (sym (one_element u j h)) element
part_of u (schema_of.set_of {j} f) h = subst (λ z. IsPart z (elements SetOf j)) (sym (one_element u j h)) element
part_of u (schema_of.choice {cs} {root} {more} a) h =
    let v = value_of (λ (b : Alternative). b.type) (root ++ more) u h in
    let n = place_of v.argument (root ++ more) v.member in
    let w = written_alternative n.0 v.argument a n.1 in
    member n.0 w.part w.there (sym w.alike.type ∙ v.same)

-- a list of the program that has component d at place n
pub record IsListWith (p : Program) (M : Name) (K : WrittenKind) (n : ℕ) (d : Component) : Type 0 where
  pub list : ListKind
  pub marker : Bool
  pub parts : List Part
  pub is : K ≡ members list marker parts
  pub at_place : IsWritten p M parts n d

pub list_with : {p : Program} {A : ℕ → ℤ → Type 0} {C : ℕ → ℕ → Type 0} {i : ℕ} {M : Name} {K : WrittenKind} {k : types.Kind} (n : ℕ) (d : Component) → IsKindOf p A C i M K k → slice_get (components k) n ≡ Some d → IsListWith p M K n d
list_with n d schema_of.boolean e = absurd (none-some d e)
list_with n d (schema_of.integer f) e = absurd (none-some d e)
list_with n d (schema_of.enumerated f) e = absurd (none-some d e)
list_with n d (schema_of.bits f) e = absurd (none-some d e)
list_with n d (schema_of.named_bits f) e = absurd (none-some d e)
list_with n d (schema_of.octets f) e = absurd (none-some d e)
list_with n d schema_of.null e = absurd (none-some d e)
list_with n d schema_of.object_identifier e = absurd (none-some d e)
list_with n d schema_of.relative_oid e = absurd (none-some d e)
list_with n d (schema_of.utf8 f) e = absurd (none-some d e)
list_with n d (schema_of.restricted g f) e = absurd (none-some d e)
list_with n d (schema_of.sequence_of f) e = absurd (none-some d e)
list_with n d (schema_of.set_of f) e = absurd (none-some d e)
list_with n d (schema_of.choice a) e = absurd (none-some d e)
list_with n d (schema_of.sequence {marker} {cs} a) e = record { list = Sequence; marker = marker; parts = cs; is = refl; at_place = written_component n d a e }
list_with n d (schema_of.set {marker} {cs} a) e = record { list = Set; marker = marker; parts = cs; is = refl; at_place = written_component n d a e }

-- ---- defaults

-- a component with a DEFAULT in the schema has one in the program
pub record HasNotation (p : Program) (M : Name) (c : Part) (v : AbstractValue) : Type 0 where
  pub notation : Tree
  pub root : c.standing ≡ Root
  pub is : c.presence ≡ default notation
  pub is_so : Notation p [] M c.ty notation v

pub default_written : {p : Program} {M : Name} {q : Presence} (c : Part) (v : AbstractValue) → IsPresenceOf p M c q → q ≡ types.default v → HasNotation p M c v
default_written c v (is_mandatory f g) e = absurd cc
default_written c v (is_optional f g) e = absurd cc
default_written {p} {M} c v (has_default {n} {d} f g h) e = let same : d ≡ v = cc in record { notation = n; root = f; is = g; is_so = subst (λ w. Notation p [] M c.ty n w) same h }
default_written c v (is_addition f g) e = absurd cc
default_written c v (is_optional_addition f g) e = absurd cc
