-- When resolved types are those of a program (X.680, clauses 17 to 33 and 41). Type i of the schema is the written type
-- i after its references and tags, with the same names, numbers and parts. What constraints allow is a parameter, as in
-- the values of types.
use Rattle.std.specs.Prelude.{◌≡◌, ◌↔◌, ℕ, ◌<◌, ◌≤◌, ℤ, pos, Bool, true, false, List, [], ◌∷◌, length, map}
use Rattle.std.specs.Prelude.{Option, Some, None, slice_get}
use Rattle.asn_base.specs.declared.strings.StringKind.{StringKind}
use Rattle.asn_base.specs.Abstract.{AbstractValue}
use Rattle.asn_base.specs.Names.{IsMember}
use Rattle.asn_base.specs.Types.{Constraint, NamedBit, Alternative, Component, Presence, Resolved}
use Rattle.asn_base.specs.Types as types
use Rattle.asn_base.specs.Typed.{IsAllowed, IsAllowedSize}
use Rattle.trees.specs.declared.types.ListKind.TheVariants.{Sequence, Set, Choice}
use Rattle.trees.specs.declared.types.ElementsKind.TheVariants.{SequenceOf, SetOf}
use Rattle.trees.specs.declared.types.Standing.TheVariants.{Root, Addition}
use Rattle.trees.specs.Values.{Name, Tree}
use Rattle.trees.specs.Types.{a_boolean, an_integer, a_bit_string, an_octet_string, a_null, an_object_identifier}
use Rattle.trees.specs.Types.{a_relative_oid, an_enumerated, a_utf8_string, a_restricted_string}
use Rattle.trees.specs.Types.{mandatory, optional, default}
use Rattle.type_table.specs.Items.{WrittenItem, additions_of}
use Rattle.type_table.specs.Table.{WrittenKind, simple, members, elements, Part, Type', IsUnderlying}
use Rattle.resolve.specs.Program.{Program, IsAssignment}
use Rattle.value_notations.specs.Leaves.{IsItem}
use Rattle.value_notations.specs.Notations.{Notation}

-- ---- items and bits

-- the named bit of a schema with the name and the place of a written one
abbrev pub schema_bit : Name × ℕ → NamedBit
schema_bit b = record { name = b.0; place = b.1 }

-- the item of a schema with name x and number z
abbrev pub numbered_item : Name → ℤ → types.Item
numbered_item x z = record { name = x; number = z }

-- item x of a written enumeration, with number z, is in the root
pub record IsRootItem (root more : List WrittenItem) (x : Name) (z : ℤ) : Type 0 where
  pub item : IsItem root more x z
  pub in_root : item.place < length root

-- item x of a written enumeration, with number z, is after the extension marker
pub record IsAddedItem (root more : List WrittenItem) (x : Name) (z : ℤ) : Type 0 where
  pub item : IsItem root more x z
  pub following : length root ≤ item.place

-- The items in a schema are those of a written enumeration, each with its number, in any order (X.680, clause 20). They
-- are those of the root, and those after the marker; the flag says whether there is a marker.
pub record AreItemsOf (root : List WrittenItem) (more : Option (List WrittenItem)) (in_root : List types.Item)
    (marker : Bool)
    (added : List types.Item) : Type 0 where
  pub roots : (x : Name) (z : ℤ) → (IsMember (numbered_item x z) in_root ↔ IsRootItem root (additions_of more) x z)
  pub additions : (x : Name) (z : ℤ) → (IsMember (numbered_item x z) added ↔ IsAddedItem root (additions_of more) x z)
  pub marked : marker ≡ false ↔ more ≡ None

-- ---- components and alternatives

-- The presence in a schema is that of component c of a list that is written in module M (X.680, clauses 25 and 27). A
-- DEFAULT is the value that its notation stands for.
pub data IsPresenceOf (p : Program) (M : Name) (c : Part) : Presence → Type 0 where
  is_mandatory :
      c.standing ≡ Root →
      c.presence ≡ mandatory →
      IsPresenceOf p M c types.mandatory
  is_optional :
      c.standing ≡ Root →
      c.presence ≡ optional →
      IsPresenceOf p M c types.optional
  has_default : {n : Tree} {d : AbstractValue} →
      c.standing ≡ Root →
      c.presence ≡ default n →
      Notation p [] M c.ty n d →
      IsPresenceOf p M c (types.default d)
  is_addition : {g : Option ℕ} →
      c.standing ≡ Addition g →
      c.presence ≡ mandatory →
      IsPresenceOf p M c (types.addition false g)
  is_optional_addition : {g : Option ℕ} →
      c.standing ≡ Addition g →
      c.presence ≡ optional →
      IsPresenceOf p M c (types.addition true g)

-- component d of a schema has the name, the type and the presence of component c of a list that is written in module M
pub record IsComponentOf (p : Program) (M : Name) (c : Part) (d : Component) : Type 0 where
  pub name : d.name ≡ c.name
  pub type : d.type ≡ c.ty
  pub presence : IsPresenceOf p M c d.presence

-- the components of a schema are those of a list that is written in module M, in the order of the text
pub data AreComponentsOf (p : Program) (M : Name) : List Part → List Component → Type 0 where
  no_component : AreComponentsOf p M [] []
  component_and : {c : Part} {cs : List Part} {d : Component} {ds : List Component} →
      IsComponentOf p M c d →
      AreComponentsOf p M cs ds →
      AreComponentsOf p M (c ∷ cs) (d ∷ ds)

-- alternative a of a schema has the name and the type of the written alternative c
pub record IsAlternativeOf (c : Part) (a : Alternative) : Type 0 where
  pub name : a.name ≡ c.name
  pub type : a.type ≡ c.ty

-- the alternatives of a schema are the written ones, in the order of the text, first those of the root, then those
-- after the marker (X.680, clause 29)
pub data AreAlternativesOf : List Part → (root more : List Alternative) → Type 0 where
  no_alternative : AreAlternativesOf [] [] []
  root_and : {c : Part} {cs : List Part} {a : Alternative} {root more : List Alternative} →
      c.standing ≡ Root →
      IsAlternativeOf c a →
      AreAlternativesOf cs root more →
      AreAlternativesOf (c ∷ cs) (a ∷ root) more
  addition_and : {c : Part} {cs : List Part} {a : Alternative} {more : List Alternative} (g : Option ℕ) →
      c.standing ≡ Addition g →
      IsAlternativeOf c a →
      AreAlternativesOf cs [] more →
      AreAlternativesOf (c ∷ cs) [] (a ∷ more)

-- alternative a of a schema is the written one at place i of the list, from 0
pub record IsChosenPart (cs : List Part) (i : ℕ) (a : Alternative) : Type 0 where
  pub part : Part
  pub there : slice_get cs i ≡ Some part
  pub alike : IsAlternativeOf part a

-- ---- kinds

-- constraint c of a schema allows in a value exactly the numbers that type i allows
abbrev pub AllowsNumbersOf : (ℕ → ℤ → Type 0) → ℕ → Constraint → Type 0
AllowsNumbersOf Allows i c = (z : ℤ) → (IsAllowed c z ↔ Allows i z)

-- constraint c of a schema allows in a value exactly the sizes that type i allows
abbrev pub AllowsSizesOf : (ℕ → ℤ → Type 0) → ℕ → Constraint → Type 0
AllowsSizesOf Allows i c = (n : ℕ) → (IsAllowedSize c n ↔ Allows i (pos n))

-- Type i, whose core is of the first kind and is written in module M, is of the second kind in a schema. The types
-- inside it have the same numbers in both.
pub data IsKindOf (p : Program) (Allows : ℕ → ℤ → Type 0) (AllowsCode : ℕ → ℕ → Type 0) (i : ℕ) (M : Name)
    : WrittenKind → types.Kind → Type 0 where
  boolean : IsKindOf p Allows AllowsCode i M (simple a_boolean) types.a_boolean
  integer : {ns : List (Name × ℤ)} {c : Constraint} →
      AllowsNumbersOf Allows i c →
      IsKindOf p Allows AllowsCode i M (simple (an_integer ns)) (types.an_integer c)
  enumerated : {root : List WrittenItem} {more : Option (List WrittenItem)} {in_root added : List types.Item}
      {marker : Bool} →
      AreItemsOf root more in_root marker added →
      IsKindOf p Allows AllowsCode i M (simple (an_enumerated root more)) (types.an_enumerated in_root marker added)
  bits : {c : Constraint} →
      AllowsSizesOf Allows i c →
      IsKindOf p Allows AllowsCode i M (simple (a_bit_string [])) (types.a_bit_string c)
  named_bits : {b : Name × ℕ} {bs : List (Name × ℕ)} {ns : List NamedBit} →
      ns ≡ map schema_bit (b ∷ bs) →
      IsKindOf p Allows AllowsCode i M (simple (a_bit_string (b ∷ bs))) (types.a_named_bit_string ns)
  octets : {c : Constraint} →
      AllowsSizesOf Allows i c →
      IsKindOf p Allows AllowsCode i M (simple an_octet_string) (types.an_octet_string c)
  null : IsKindOf p Allows AllowsCode i M (simple a_null) types.a_null
  object_identifier : IsKindOf p Allows AllowsCode i M (simple an_object_identifier) types.an_object_identifier
  relative_oid : IsKindOf p Allows AllowsCode i M (simple a_relative_oid) types.a_relative_oid
  utf8 : {c : Constraint} →
      AllowsSizesOf Allows i c →
      IsKindOf p Allows AllowsCode i M (simple a_utf8_string) (types.a_utf8_string c)
  restricted : {k : StringKind} {codes : List ℕ} {c : Constraint} →
      ((x : ℕ) → (IsMember x codes ↔ AllowsCode i x)) →
      AllowsSizesOf Allows i c →
      IsKindOf p Allows AllowsCode i M (simple (a_restricted_string k)) (types.a_restricted_string k codes c)
  sequence : {marker : Bool} {cs : List Part} {ds : List Component} →
      AreComponentsOf p M cs ds →
      IsKindOf p Allows AllowsCode i M (members Sequence marker cs) (types.a_sequence marker ds)
  set : {marker : Bool} {cs : List Part} {ds : List Component} →
      AreComponentsOf p M cs ds →
      IsKindOf p Allows AllowsCode i M (members Set marker cs) (types.a_set marker ds)
  sequence_of : {j : ℕ} {c : Constraint} →
      AllowsSizesOf Allows i c →
      IsKindOf p Allows AllowsCode i M (elements SequenceOf j) (types.a_sequence_of c j)
  set_of : {j : ℕ} {c : Constraint} →
      AllowsSizesOf Allows i c →
      IsKindOf p Allows AllowsCode i M (elements SetOf j) (types.a_set_of c j)
  choice : {marker : Bool} {cs : List Part} {root more : List Alternative} →
      AreAlternativesOf cs root more →
      IsKindOf p Allows AllowsCode i M (members Choice marker cs) (types.a_choice root marker more)

-- ---- types

-- type i of program p, after its references and tags, is of kind k in a schema
pub record IsTypeOf (p : Program) (Allows : ℕ → ℤ → Type 0) (AllowsCode : ℕ → ℕ → Type 0) (i : ℕ) (k : types.Kind)
    : Type 0 where
  -- the number of the type to which its references and tags lead
  pub core : ℕ
  pub type : Type'
  pub chain : IsUnderlying p.types i core
  pub there : slice_get p.types core ≡ Some type
  -- the module in which the core is written
  pub within : Name
  pub assigns : Name
  pub is_so : IsAssignment p type.assignment within assigns
  pub kind : IsKindOf p Allows AllowsCode i within type.kind k

-- Schema s has a type for each written type of program p, with the same number. Nothing is said here about its tags,
-- and about what the packed encoding sees.
pub record IsSchemaOf (p : Program) (Allows : ℕ → ℤ → Type 0) (AllowsCode : ℕ → ℕ → Type 0) (s : List Resolved)
    : Type 0 where
  pub as_many : length s ≡ length p.types
  pub each : (i : ℕ) (r : Resolved) → slice_get s i ≡ Some r → IsTypeOf p Allows AllowsCode i r.kind
