-- Values that are read from a message, as trees, without their addresses in memory (X.680, clauses 18 to 33 and 41).
use Rattle.std.specs.Prelude.{◌≡◌, ℕ, ◌+◌, ◌==◌, ℤ, Bool, List, length, cond, Option, Some, None, true, false}
use Rattle.std.specs.List.{slice_range}
use Rattle.asn_base.specs.Abstract as value
use Rattle.asn_base.specs.Abstract.{AbstractValue, Row, row_of_options}
pub use Rattle.asn_base.specs.Abstract.{bits_in, placed}

-- a value that holds no others. A string has the place in the message of its first octet, counted from 0, or None if it
-- was joined from segments
pub data Leaf : Type 0 where
  boolean : Bool → Leaf
  integer : ℤ → Leaf
  enumerated : ℤ → Leaf
  bits : (unused : ℕ) → List ℕ → (at : Option ℕ) → Leaf
  octets : List ℕ → (at : Option ℕ) → Leaf
  text : List ℕ → (at : Option ℕ) → Leaf
  null : Leaf
  oid : List ℕ → Leaf
  relative_oid : List ℕ → Leaf

mutual
  -- a value: a row of size components, of which some are there; elements; or the alternative with a number
  pub data ViewTree : Type 0 where
    leaf : Leaf → ViewTree
    fields : (size : ℕ) → ViewMembers → ViewTree
    list : ViewMembers → ViewTree
    alternative : (index : ℕ) → ViewTree → ViewTree

  -- the members that are there, in the order of the message, each with the number of its component
  pub data ViewMembers : Type 0 where
    no_member : ViewMembers
    member : (number : ℕ) → ViewTree → ViewMembers → ViewMembers

-- the abstract value that a leaf shows, wherever its octets are in the message
abbrev pub leaf_value : Leaf → AbstractValue
leaf_value (boolean b) = value.boolean b
leaf_value (integer z) = value.integer z
leaf_value (enumerated z) = value.enumerated z
leaf_value (bits unused os at) = value.bits (bits_in unused os)
leaf_value (octets os at) = value.octets os
leaf_value (text os at) = value.text os
leaf_value null = value.null
leaf_value (oid ns) = value.oid ns
leaf_value (relative_oid ns) = value.relative_oid ns

abbrev mutual
  -- the value that a tree shows
  pub value_of : ViewTree → AbstractValue
  value_of (leaf l) = leaf_value l
  value_of (fields n ms) = value.fields (row_of_options (placed n (λ i. component_value ms i)))
  value_of (list ms) = value.list (element_values ms)
  value_of (alternative i t) = value.alternative i (value_of t)

  -- the value of the first component with the number, or None
  pub component_value : ViewMembers → ℕ → Option AbstractValue
  component_value no_member i = None
  component_value (member k t ms) i = cond (k == i) (Some (value_of t)) (component_value ms i)

  -- the values of the members, in order, as the elements of a SEQUENCE OF or SET OF
  pub element_values : ViewMembers → Row
  element_values no_member = value.end
  element_values (member k t ms) = value.present (value_of t) (element_values ms)

-- the first member with the number, or None
abbrev pub component : ViewMembers → ℕ → Option ViewTree
component no_member i = None
component (member k t ms) i = cond (k == i) (Some t) (component ms i)

-- how many members there are
abbrev pub count : ViewMembers → ℕ
count no_member = 0
count (member k t ms) = count ms + 1

-- the members that are left when the component with a number was asked for: without the first one if it is that one
abbrev pub left_after : ℕ → ViewMembers → ViewMembers
left_after i no_member = no_member
left_after i (member k t ms) = cond (k == i) ms (member k t ms)

abbrev mutual
  -- how many nodes a value is, with all below it
  pub nodes_in : ViewTree → ℕ
  nodes_in (leaf l) = 1
  nodes_in (fields n ms) = nodes_left ms + 1
  nodes_in (list ms) = nodes_left ms + 1
  nodes_in (alternative i t) = nodes_in t + 1

  -- how many nodes members are, with all below them
  pub nodes_left : ViewMembers → ℕ
  nodes_left no_member = 0
  nodes_left (member k t ms) = nodes_in t + nodes_left ms

-- the first members, and then the second ones
abbrev pub joined : ViewMembers → ViewMembers → ViewMembers
joined no_member ns = ns
joined (member k t ms) ns = member k t (joined ms ns)

-- octets with a place are the message's octets at that place; octets without one may be any
abbrev pub IsBorrowedAt : List ℕ → List ℕ → Option ℕ → Type 0
IsBorrowedAt message os None = Unit {0}
IsBorrowedAt message os (Some p) = slice_range message p (p + length os) ≡ os

abbrev pub IsBorrowedLeaf : List ℕ → Leaf → Type 0
IsBorrowedLeaf message (boolean b) = Unit {0}
IsBorrowedLeaf message (integer z) = Unit {0}
IsBorrowedLeaf message (enumerated z) = Unit {0}
IsBorrowedLeaf message (bits unused os at) = IsBorrowedAt message os at
IsBorrowedLeaf message (octets os at) = IsBorrowedAt message os at
IsBorrowedLeaf message (text os at) = IsBorrowedAt message os at
IsBorrowedLeaf message null = Unit {0}
IsBorrowedLeaf message (oid ns) = Unit {0}
IsBorrowedLeaf message (relative_oid ns) = Unit {0}

abbrev mutual
  -- each string with a place is the message's octets at that place
  pub IsBorrowed : List ℕ → ViewTree → Type 0
  IsBorrowed message (leaf l) = IsBorrowedLeaf message l
  IsBorrowed message (fields n ms) = AreBorrowed message ms
  IsBorrowed message (list ms) = AreBorrowed message ms
  IsBorrowed message (alternative i t) = IsBorrowed message t

  pub AreBorrowed : List ℕ → ViewMembers → Type 0
  AreBorrowed message no_member = Unit {0}
  AreBorrowed message (member k t ms) = IsBorrowed message t × AreBorrowed message ms

-- the value of a tree of this kind, and None of another kind
abbrev pub boolean_in : ViewTree → Option Bool
boolean_in (leaf (boolean b)) = Some b
boolean_in _ = None

abbrev pub integer_in : ViewTree → Option ℤ
integer_in (leaf (integer z)) = Some z
integer_in _ = None

-- the members of a tree; none of a leaf or an alternative
abbrev pub members_in : ViewTree → ViewMembers
members_in (fields n ms) = ms
members_in (list ms) = ms
members_in _ = no_member

-- the number of the alternative and its value
abbrev pub alternative_in : ViewTree → Option (ℕ × ViewTree)
alternative_in (alternative i t) = Some (i, t)
alternative_in _ = None

abbrev pub enumerated_in : ViewTree → Option ℤ
enumerated_in (leaf (enumerated z)) = Some z
enumerated_in _ = None

abbrev pub null_in : ViewTree → Bool
null_in (leaf null) = true
null_in _ = false

-- the octets of an OCTET STRING, and the place in the message of the first one; the place is None if they were joined
abbrev pub octets_in : ViewTree → Option (List ℕ × Option ℕ)
octets_in (leaf (octets os at)) = Some (os, at)
octets_in _ = None

-- the unused bits of a BIT STRING, its octets, and the place of the first one
abbrev pub bit_string_in : ViewTree → Option (ℕ × List ℕ × Option ℕ)
bit_string_in (leaf (bits unused os at)) = Some (unused, os, at)
bit_string_in _ = None

-- the UTF-8 octets of a character string, and the place of the first one
abbrev pub text_in : ViewTree → Option (List ℕ × Option ℕ)
text_in (leaf (text os at)) = Some (os, at)
text_in _ = None

abbrev pub oid_in : ViewTree → Option (List ℕ)
oid_in (leaf (oid ns)) = Some ns
oid_in _ = None

abbrev pub relative_oid_in : ViewTree → Option (List ℕ)
relative_oid_in (leaf (relative_oid ns)) = Some ns
relative_oid_in _ = None
