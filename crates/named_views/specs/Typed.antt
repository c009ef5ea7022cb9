-- Parts of a decoded value with their types, by the names of components, alternatives and items (X.680, clause 12.3).
use Rattle.std.specs.Prelude.{◌≡◌, ℕ, ℤ, List, Some, None, slice_get}
use Rattle.asn_base.specs.Types.{Alternative, Component, Kind, Resolved}
use Rattle.value_builders.specs.Named.{Has, kind_at, components_in, place_of, component_names}
use Rattle.value_text.specs.Print.{items_in, name_with, alternatives_in, element_in}
use Rattle.views.specs.Tree.{ViewTree, ViewMembers, member, members_in, alternative_in, enumerated_in}
use Rattle.views.specs.Tree.{component as component_at}

-- a part of a decoded value with its type: the schema, the number of the type in it, and the tree that the part is
pub record Typed : Type 0 where
  pub schema : List Resolved
  pub type : ℕ
  pub tree : ViewTree

-- members with their type: the schema, the number of the type in it, and the members
pub record TypedMembers : Type 0 where
  pub schema : List Resolved
  pub type : ℕ
  pub members : ViewMembers

-- q is the component with this name of part p
pub record IsField (p : Typed) (name : List ℕ) (q : Typed) : Type 0 where
  pub components : List Component
  pub of : Has components_in p.schema p.type components
  pub place : ℕ
  pub named : place_of (component_names components) name ≡ Some place
  pub component : Component
  pub at : slice_get components place ≡ Some component
  pub there : component_at (members_in p.tree) place ≡ Some q.tree
  pub type : q.type ≡ component.type
  pub schema : q.schema ≡ p.schema

-- part p has no component with this name: its type has none, or the component is absent
abbrev pub HasNoField : Typed → List ℕ → Type 0
HasNoField p name =
    (cs : List Component) (i : ℕ)
    → Has components_in p.schema p.type cs
    → place_of (component_names cs) name ≡ Some i
    → component_at (members_in p.tree) i ≡ None

-- part p, of a CHOICE, is alternative q with this name
pub record IsChosen (p : Typed) (name : List ℕ) (q : Typed) : Type 0 where
  pub kind : Kind
  pub of : kind_at p.schema p.type ≡ Some kind
  pub number : ℕ
  pub chosen : alternative_in p.tree ≡ Some (number, q.tree)
  pub alternative : Alternative
  pub at : slice_get (alternatives_in kind) number ≡ Some alternative
  pub named : name ≡ alternative.name
  pub type : q.type ≡ alternative.type
  pub schema : q.schema ≡ p.schema

-- part p is no alternative of its type
abbrev pub HasNoChoice : Typed → Type 0
HasNoChoice p =
    (k : Kind) (i : ℕ) (u : ViewTree)
    → kind_at p.schema p.type ≡ Some k
    → alternative_in p.tree ≡ Some (i, u)
    → slice_get (alternatives_in k) i ≡ None

-- part p, of an ENUMERATED, is the item with this name
pub record IsNamedItem (p : Typed) (name : List ℕ) : Type 0 where
  pub kind : Kind
  pub of : kind_at p.schema p.type ≡ Some kind
  pub number : ℤ
  pub item : enumerated_in p.tree ≡ Some number
  pub named : name_with (items_in kind) number ≡ Some name

-- part p is no item of its type
abbrev pub HasNoItem : Typed → Type 0
HasNoItem p =
    (k : Kind) (z : ℤ)
    → kind_at p.schema p.type ≡ Some k
    → enumerated_in p.tree ≡ Some z
    → name_with (items_in k) z ≡ None

-- the elements of part p, of a SEQUENCE OF or SET OF
pub record AreElements (p : Typed) (m : TypedMembers) : Type 0 where
  pub kind : Kind
  pub of : kind_at p.schema p.type ≡ Some kind
  pub element : element_in kind ≡ Some m.type
  pub are : m.members ≡ members_in p.tree
  pub schema : m.schema ≡ p.schema

-- part p is of no SEQUENCE OF or SET OF
abbrev pub HasNoElements : Typed → Type 0
HasNoElements p = (k : Kind) → kind_at p.schema p.type ≡ Some k → element_in k ≡ None

-- members m begin with element q, and n are those after it
pub record IsNextElement (m : TypedMembers) (q : Typed) (n : TypedMembers) : Type 0 where
  pub number : ℕ
  pub are : m.members ≡ member number q.tree n.members
  pub type : q.type ≡ m.type
  pub schema : q.schema ≡ m.schema
  pub same_type : n.type ≡ m.type
  pub same_schema : n.schema ≡ m.schema

-- members with names: the schema, the components that the members are numbered by, and the members
pub record NamedMembers : Type 0 where
  pub schema : List Resolved
  pub components : List Component
  pub members : ViewMembers

-- the components of part p, of a SEQUENCE or SET
pub record AreFields (p : Typed) (m : NamedMembers) : Type 0 where
  pub of : Has components_in p.schema p.type m.components
  pub are : m.members ≡ members_in p.tree
  pub schema : m.schema ≡ p.schema

-- part p is of no SEQUENCE or SET
abbrev pub HasNoFields : Typed → Type 0
HasNoFields p = (cs : List Component) → Has components_in p.schema p.type cs → ⊥

-- members m begin with component q of this name, and n are those after it
pub record IsNextField (m : NamedMembers) (name : List ℕ) (q : Typed) (n : NamedMembers) : Type 0 where
  pub number : ℕ
  pub are : m.members ≡ member number q.tree n.members
  pub component : Component
  pub at : slice_get m.components number ≡ Some component
  pub named : name ≡ component.name
  pub type : q.type ≡ component.type
  pub schema : q.schema ≡ m.schema
  pub same_components : n.components ≡ m.components
  pub same_schema : n.schema ≡ m.schema

-- No member is left, or the first of them has a number that no component has. A value of the type has no such member.
abbrev pub HasNoNextField : NamedMembers → Type 0
HasNoNextField m =
    (i : ℕ) (t : ViewTree) (ms : ViewMembers)
    → m.members ≡ member i t ms
    → slice_get m.components i ≡ None
