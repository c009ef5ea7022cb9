-- The trees of types: the form in which their notation is kept, without addresses in memory or places in the text
-- (X.680, clauses 17 to 33 and 41). A name is the list of its octets.
use Rattle.std.specs.Prelude.{ℕ, ℤ, Bool, Option, List, [], ◌∷◌, map, option_map}
use Rattle.asn_base.specs.declared.strings.StringKind.{StringKind}
use Rattle.asn_base.specs.declared.strings.StringKind.TheVariants.{Numeric, Printable, Ia5, Visible}
use Rattle.asn_base.specs.declared.tag.Tag.{Tag}
use Rattle.trees.specs.declared.types.TypeSyntax.{TypeSyntax}
use Rattle.trees.specs.declared.types.TypeSyntax.TheOpen.{TypeSyntax-F}
use Rattle.trees.specs.declared.types.TypeSyntax.TheFolds.{fold-TypeSyntax}
use Rattle.trees.specs.declared.types.TypeForm.{TypeForm}
use Rattle.trees.specs.declared.types.TypeForm.TheVariants as forms
use Rattle.trees.specs.declared.types.Simple.{Simple}
use Rattle.trees.specs.declared.types.Simple.TheVariants as simples
use Rattle.trees.specs.declared.types.ListKind.{ListKind}
use Rattle.trees.specs.declared.types.ElementsKind.{ElementsKind}
use Rattle.trees.specs.declared.types.Keyword.{Keyword}
use Rattle.trees.specs.declared.types.Member.{Member}
use Rattle.trees.specs.declared.types.NamedNumber.{NamedNumber}
use Rattle.trees.specs.declared.types.NamedBit.{NamedBit}
use Rattle.trees.specs.declared.types.EnumeratedItem.{EnumeratedItem}
use Rattle.trees.specs.declared.types.PresenceSyntax.{PresenceSyntax}
use Rattle.trees.specs.declared.types.PresenceSyntax.TheVariants as presences
use Rattle.trees.specs.declared.types.Standing.{Standing}
use Rattle.trees.specs.Names.{reference_module, reference_name}
use Rattle.trees.specs.Values.{Name, name_at, Tree, tree_of}
use Rattle.trees.specs.Constraints.{ConstraintTree, constraint_of}

-- whether a member may be absent, and its value if it is absent: nothing, OPTIONAL or DEFAULT after its type (X.680,
-- clause 25)
pub data PresenceTree : Type 0 where
  mandatory : PresenceTree
  optional : PresenceTree
  default : Tree → PresenceTree

-- a type that holds no other type
pub data Plain : Type 0 where
  a_boolean : Plain
  -- names with numbers
  an_integer : List (Name × ℤ) → Plain
  -- the names of bits with their places
  a_bit_string : List (Name × ℕ) → Plain
  an_octet_string : Plain
  a_null : Plain
  an_object_identifier : Plain
  a_relative_oid : Plain
  -- items, each with its number if one is given: those of the root, and those after the marker if there is one
  an_enumerated : (root : List (Name × Option ℤ)) → (additions : Option (List (Name × Option ℤ))) → Plain
  a_utf8_string : Plain
  a_restricted_string : StringKind → Plain

-- the universal tag number of one of four string types (X.680, clause 8, table 1)
abbrev pub string_number : StringKind → ℕ
string_number Numeric = 18
string_number Printable = 19
string_number Ia5 = 22
string_number Visible = 26

-- the universal tag number of a type that holds no other type (X.680, clause 8, table 1)
abbrev pub universal : Plain → ℕ
universal a_boolean = 1
universal (an_integer ns) = 2
universal (a_bit_string bs) = 3
universal an_octet_string = 4
universal a_null = 5
universal an_object_identifier = 6
universal (an_enumerated root additions) = 10
universal a_utf8_string = 12
universal a_relative_oid = 13
universal (a_restricted_string k) = string_number k

mutual
  -- a type as it is written, with the constraints after it (X.680, clauses 17 and 49)
  pub data TypeTree : Type 0 where
    -- the form of the type, and the constraints after it, in order
    a_type : FormTree → List ConstraintTree → TypeTree

  -- a type as it is written, without the constraints after it (X.680, clause 17)
  pub data FormTree : Type 0 where
    a_simple : Plain → FormTree
    -- the module's name, if one is given, and the type's name
    a_reference : Option (List ℕ) → List ℕ → FormTree
    -- the kind of the list, whether it has an extension marker, and its members
    a_list : ListKind → Bool → TypeMembers → FormTree
    -- the kind, and the type of the elements
    an_elements : ElementsKind → TypeTree → FormTree
    -- the tag, the word IMPLICIT or EXPLICIT after it, if one is written, and the type that is tagged
    a_tagged : Tag → Keyword → TypeTree → FormTree

  -- the members of a SEQUENCE, SET or CHOICE, of the root and additions, in the order of the text
  pub data TypeMembers : Type 0 where
    no_member : TypeMembers
    -- the first member's name, its type, whether it may be absent, and whether it is of the root or an addition; and
    -- the other members
    member_and : List ℕ → TypeTree → PresenceTree → Standing → TypeMembers → TypeMembers

-- a member: its name, its type, whether it may be absent, and whether it is of the root or an addition
pub record MemberTree : Type 0 where
  pub name : Name
  pub type : TypeTree
  pub presence : PresenceTree
  pub standing : Standing

-- the members in this list, in the form in which the tree of a type holds them
abbrev pub type_members : List MemberTree → TypeMembers
type_members [] = no_member
type_members (m ∷ ms) = member_and m.name m.type m.presence m.standing (type_members ms)

-- the tree that the presence of a member in memory holds: mandatory, OPTIONAL, or DEFAULT with its value (X.680, clause
-- 25)
abbrev pub presence_tree : PresenceSyntax → PresenceTree
presence_tree presences.Mandatory = mandatory
presence_tree presences.Optional = optional
presence_tree (presences.Default v) = default (tree_of v.value)

-- the name and the number of a named number in memory (X.680, clause 19)
abbrev pub numbered_name : NamedNumber → Name × ℤ
numbered_name n = (name_at n.name, n.number)

-- the name and the place of a named bit in memory (X.680, clause 22)
abbrev pub bit_of : NamedBit → Name × ℕ
bit_of b = (name_at b.name, b.place)

-- the name of an item of an enumeration in memory, and its number if one is written (X.680, clause 20)
abbrev pub item_of : EnumeratedItem → Name × Option ℤ
item_of i = (name_at i.name, i.number)

-- the tree that a type in memory holds, if it holds no other type (X.680, clauses 17 to 33 and 41)
abbrev pub plain_of : Simple → Plain
plain_of simples.Boolean = a_boolean
plain_of (simples.Integer ns) = an_integer (map numbered_name ns.items)
plain_of (simples.BitString bs) = a_bit_string (map bit_of bs.items)
plain_of simples.OctetString = an_octet_string
plain_of simples.Null = a_null
plain_of simples.ObjectIdentifier = an_object_identifier
plain_of simples.RelativeOid = a_relative_oid
plain_of (simples.Enumerated e) =
    an_enumerated (map item_of e.value.root.items) (option_map (λ is. map item_of is.items) e.value.additions)
plain_of simples.Utf8String = a_utf8_string
plain_of (simples.Restricted k) = a_restricted_string k

-- a member whose type is a tree already
abbrev pub member_layer : Member TypeTree → MemberTree
member_layer m = record {
  name = name_at m.name;
  type = m.syntax;
  presence = presence_tree m.presence;
  standing = m.standing;
}

-- one level of a type
abbrev pub form_layer : TypeForm TypeTree → FormTree
form_layer (forms.Simple s) = a_simple (plain_of s)
form_layer (forms.Reference r) = a_reference (reference_module r) (reference_name r)
form_layer (forms.List k marker ms) = a_list k marker (type_members (map member_layer ms.items))
form_layer (forms.Elements k t) = an_elements k t.value
form_layer (forms.Tagged tag word t) = a_tagged tag word t.value

-- one level of a type with its constraints
abbrev pub type_layer : TypeSyntax-F TypeTree → TypeTree
type_layer t = a_type (form_layer t.form) (map constraint_of t.constraints.items)

-- the tree that a type in memory holds
abbrev pub type_tree_of : TypeSyntax → TypeTree
type_tree_of = fold-TypeSyntax TypeTree type_layer

-- a component or alternative in memory, as it is written
abbrev pub type_member_of : Member TypeSyntax → MemberTree
type_member_of m = record {
  name = name_at m.name;
  type = type_tree_of m.syntax;
  presence = presence_tree m.presence;
  standing = m.standing;
}
