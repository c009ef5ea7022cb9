-- The values of the types of a schema: shape, constraints, items, mandatory components and limits (X.680, clauses 18 to
-- 33, 41 and 51). The limits are own rules.
use Rattle.std.specs.Prelude.{◌≡◌, ℕ, suc, ◌+◌, ◌++◌, ◌<◌, ◌≤◌, ◌^◌, ◌⊎◌, ℤ, pos, negsuc, ◌≤ℤ◌, Bool, false, List, []}
use Rattle.std.specs.Prelude.{◌∷◌, length, Option, Some, None, slice_get, IfSome, IsUtf8, chars}
use Rattle.std.specs.List.{AllByRecursion}
use Rattle.std.specs.Int.Digits.{AllBelowBase}
use Rattle.asn_base.specs.declared.tag.Tag.{Tag}
use Rattle.asn_base.specs.declared.strings.StringKind.{StringKind}
use Rattle.asn_base.specs.Abstract.{AbstractValue, boolean, integer, enumerated, bits, octets, text, null, oid}
use Rattle.asn_base.specs.Abstract.{relative_oid, fields, list, alternative, Row, end, absent, present}
use Rattle.asn_base.specs.Names.{IsMember}
use Rattle.asn_base.specs.Types.{Range, Constraint, Item, NamedBit, Alternative, Kind, a_boolean, an_integer}
use Rattle.asn_base.specs.Types.{an_enumerated, a_bit_string, a_named_bit_string, an_octet_string, a_null}
use Rattle.asn_base.specs.Types.{an_object_identifier, a_relative_oid, a_utf8_string, a_restricted_string, a_sequence}
use Rattle.asn_base.specs.Types.{a_set, a_sequence_of, a_set_of, a_choice, Presence, mandatory, optional, default}
use Rattle.asn_base.specs.Types.{addition, Component, Resolved, Is}

-- the number is from -2^127 to 2^127 - 1 (own rule)
abbrev pub IsWithinLimit : ℤ → Type 0
IsWithinLimit (pos n) = n < 2 ^ 127
IsWithinLimit (negsuc n) = n < 2 ^ 127

-- number z is in range r, whose ends are in it
abbrev pub IsInRange : ℤ → Range → Type 0
IsInRange z r = IfSome r.least (λ l. l ≤ℤ z) × IfSome r.greatest (λ g. z ≤ℤ g)

-- number z is in one of the ranges
abbrev pub IsInSome : ℤ → List Range → Type 0
IsInSome z [] = ⊥
IsInSome z (r ∷ rs) = IsInRange z r ⊎ IsInSome z rs

-- constraint c of a resolved type allows number z in a value
abbrev pub IsAllowed : Constraint → ℤ → Type 0
IsAllowed c z = IfSome c.allowed (IsInSome z)

-- constraint c of a resolved type allows size n in a value
abbrev pub IsAllowedSize : Constraint → ℕ → Type 0
IsAllowedSize c n = IsAllowed c (pos n)

-- one of the items has number z
abbrev pub HasNumber : List Item → ℤ → Type 0
HasNumber [] z = ⊥
HasNumber (i ∷ is) z = (i.number ≡ z) ⊎ HasNumber is z

-- The numbers are an object identifier, the first at most 2, and after 0 or 1 the second at most 39 (X.680, clause 32).
-- They are 2 to 64, each below 2^64 (own rule).
pub data IsObjectIdentifier : List ℕ → Type 0 where
  arcs : {x y : ℕ} {zs : List ℕ}
      → x ≤ 2
      → (x < 2 → y < 40)
      → y < 2 ^ 64
      → AllByRecursion (λ z. z < 2 ^ 64) zs
      → length zs ≤ 62
      → IsObjectIdentifier (x ∷ y ∷ zs)

-- The numbers are a relative object identifier (X.680, clause 33), with 1 to 64 numbers, each below 2^64 (own rule).
pub record IsRelativeOid (ns : List ℕ) : Type 0 where
  pub some : 1 ≤ length ns
  pub at_most : length ns ≤ 64
  pub small : AllByRecursion (λ n. n < 2 ^ 64) ns

-- Value v, in its form, number, size, characters and items, is one that kind k allows; k is a kind whose values hold no
-- others.
pub data IsPrimitive : Kind → AbstractValue → Type 0 where
  fits_boolean : {b : Bool} → IsPrimitive a_boolean (boolean b)
  fits_integer : {c : Constraint} {z : ℤ}
      → IsWithinLimit z
      → IsAllowed c z
      → IsPrimitive (an_integer c) (integer z)
  -- an item of the root or an addition has the number
  fits_enumerated : {root more : List Item} {e : Bool} {z : ℤ}
      → IsWithinLimit z
      → HasNumber (root ++ more) z
      → IsPrimitive (an_enumerated root e more) (enumerated z)
  fits_bits : {c : Constraint} {s : List Bool}
      → IsAllowedSize c (length s)
      → IsPrimitive (a_bit_string c) (bits s)
  -- any bits are allowed: a BIT STRING with named bits takes no SIZE (own rule)
  fits_named_bits : {ns : List NamedBit} {s : List Bool} → IsPrimitive (a_named_bit_string ns) (bits s)
  fits_octets : {c : Constraint} {o : List ℕ}
      → AllBelowBase 256 o
      → IsAllowedSize c (length o)
      → IsPrimitive (an_octet_string c) (octets o)
  fits_null : IsPrimitive a_null null
  fits_oid : {ns : List ℕ} → IsObjectIdentifier ns → IsPrimitive an_object_identifier (oid ns)
  fits_relative_oid : {ns : List ℕ} → IsRelativeOid ns → IsPrimitive a_relative_oid (relative_oid ns)
  -- the size is the number of characters
  fits_utf8 : {c : Constraint} {o : List ℕ}
      → IsUtf8 o
      → IsAllowedSize c (length (chars o))
      → IsPrimitive (a_utf8_string c) (text o)
  -- each octet is the code of a character of the alphabet
  fits_restricted : {k : StringKind} {alphabet : List ℕ} {c : Constraint} {o : List ℕ}
      → AllByRecursion (λ x. IsMember x alphabet) o
      → IsAllowedSize c (length o)
      → IsPrimitive (a_restricted_string k alphabet c) (text o)

-- the number of places in a row, those of absent components included
abbrev pub members : Row → ℕ
members end = 0
members (absent vs) = suc (members vs)
members (present v vs) = suc (members vs)

-- the number of the version brackets that a component of this presence is in, if it is in any (X.680, clause 25)
abbrev pub group_of : Presence → Option ℕ
group_of mandatory = None
group_of optional = None
group_of (default d) = None
group_of (addition o g) = g

-- component c of a schema is an addition in the version brackets with number g, OPTIONAL or not (X.680, clause 25)
abbrev pub IsOfGroup : ℕ → Component → Type 0
IsOfGroup g c = group_of c.presence ≡ Some g

-- a component in the version brackets with number g is present in the row
abbrev pub HasOfGroup : ℕ → List Component → Row → Type 0
HasOfGroup g (c ∷ cs) (present v vs) = IsOfGroup g c ⊎ HasOfGroup g cs vs
HasOfGroup g (c ∷ cs) (absent vs) = HasOfGroup g cs vs
HasOfGroup g cs vs = ⊥

-- a component in the version brackets with number g that isn't OPTIONAL is absent from the row
abbrev pub LacksOfGroup : ℕ → List Component → Row → Type 0
LacksOfGroup g (c ∷ cs) (present v vs) = LacksOfGroup g cs vs
LacksOfGroup g (c ∷ cs) (absent vs) = (c.presence ≡ addition false (Some g)) ⊎ LacksOfGroup g cs vs
LacksOfGroup g cs vs = ⊥

-- if a component in version brackets is present in the row, all components in these brackets that aren't OPTIONAL are
-- present (X.680, clause 25)
abbrev pub GroupsAreWhole : List Component → Row → Type 0
GroupsAreWhole cs vs = (g : ℕ) → HasOfGroup g cs vs → LacksOfGroup g cs vs → ⊥

mutual
  -- v is a value of type t of schema s with at most n levels, without the limit on nodes
  pub data ValueIn (s : List Resolved) : ℕ → ℕ → AbstractValue → Type 0 where
    value_in : {n t : ℕ} {tags : List Tag} {k : Kind} {v : AbstractValue}
        → Is s t tags k
        → ValueOf s n k v
        → ValueIn s (suc n) t v

  -- v is a value of kind k of schema s, and its members have at most n levels
  pub data ValueOf (s : List Resolved) : ℕ → Kind → AbstractValue → Type 0 where
    of_leaf : {n : ℕ} {k : Kind} {v : AbstractValue} → IsPrimitive k v → ValueOf s n k v
    of_sequence : {n : ℕ} {e : Bool} {cs : List Component} {vs : Row}
        → AreComponents s n cs vs
        → GroupsAreWhole cs vs
        → ValueOf s n (a_sequence e cs) (fields vs)
    of_set : {n : ℕ} {e : Bool} {cs : List Component} {vs : Row}
        → AreComponents s n cs vs
        → GroupsAreWhole cs vs
        → ValueOf s n (a_set e cs) (fields vs)
    of_sequence_of : {n u : ℕ} {c : Constraint} {vs : Row}
        → AreElements s n u vs
        → IsAllowedSize c (members vs)
        → ValueOf s n (a_sequence_of c u) (list vs)
    of_set_of : {n u : ℕ} {c : Constraint} {vs : Row}
        → AreElements s n u vs
        → IsAllowedSize c (members vs)
        → ValueOf s n (a_set_of c u) (list vs)
    -- alternatives are counted over root and additions
    of_choice : {n i : ℕ} {e : Bool} {root more : List Alternative} {a : Alternative} {v : AbstractValue}
        → slice_get (root ++ more) i ≡ Some a
        → ValueIn s n a.type v
        → ValueOf s n (a_choice root e more) (alternative i v)

  -- A component of type t with this presence may be absent if it is OPTIONAL, an addition, or has a DEFAULT (X.680,
  -- clause 25). The DEFAULT is then a value of the type with at most n levels (own rule).
  pub data MayBeAbsent (s : List Resolved) : ℕ → ℕ → Presence → Type 0 where
    where_optional : {n t : ℕ} → MayBeAbsent s n t optional
    where_default : {n t : ℕ} {d : AbstractValue} → ValueIn s n t d → MayBeAbsent s n t (default d)
    where_addition : {n t : ℕ} {o : Bool} {g : Option ℕ} → MayBeAbsent s n t (addition o g)

  -- the row has one place for each component of a schema, with a value of its type, or absent where the component may
  -- be (X.680, clauses 25 and 27)
  pub data AreComponents (s : List Resolved) : ℕ → List Component → Row → Type 0 where
    no_component : {n : ℕ} → AreComponents s n [] end
    component_absent : {n : ℕ} {c : Component} {cs : List Component} {vs : Row}
        → MayBeAbsent s n c.type c.presence
        → AreComponents s n cs vs
        → AreComponents s n (c ∷ cs) (absent vs)
    component_present : {n : ℕ} {c : Component} {cs : List Component} {v : AbstractValue} {vs : Row}
        → ValueIn s n c.type v
        → AreComponents s n cs vs
        → AreComponents s n (c ∷ cs) (present v vs)

  -- each member of the row is a value of type u of the schema with at most n levels, and none is absent (X.680, clauses
  -- 26 and 28)
  pub data AreElements (s : List Resolved) : ℕ → ℕ → Row → Type 0 where
    no_element : {n u : ℕ} → AreElements s n u end
    one_element : {n u : ℕ} {v : AbstractValue} {vs : Row}
        → ValueIn s n u v
        → AreElements s n u vs
        → AreElements s n u (present v vs)

abbrev mutual
  -- how many nodes a value has, which are itself and each value in it at any depth (own rule)
  pub nodes : AbstractValue → ℕ
  nodes (fields vs) = suc (row_nodes vs)
  nodes (list vs) = suc (row_nodes vs)
  nodes (alternative i v) = suc (nodes v)
  nodes v = 1

  -- how many nodes the members of a row have together, absent ones none (own rule)
  pub row_nodes : Row → ℕ
  row_nodes end = 0
  row_nodes (absent vs) = row_nodes vs
  row_nodes (present v vs) = nodes v + row_nodes vs

-- v is a value of type t of schema s with at most 64 levels, without the limit on nodes
abbrev pub IsValueWithoutNodes : List Resolved → ℕ → AbstractValue → Type 0
IsValueWithoutNodes s t v = ValueIn s 64 t v

-- v is a value of type t of schema s with at most 64 levels and 2^24 nodes (own rule)
pub record IsValue (s : List Resolved) (t : ℕ) (v : AbstractValue) : Type 0 where
  pub shaped : IsValueWithoutNodes s t v
  pub few_nodes : nodes v ≤ 16777216
