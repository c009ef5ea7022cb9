-- The tree of a printed value.
use Rattle.std.specs.Prelude.{ℕ, ◌/◌, ◌%◌, pos, Bool, List, [], ◌∷◌, map, Some, None, slice_get}
use Rattle.std.specs.Prelude.{if◌then◌else◌}
use Rattle.std.specs.List.{list_any}
use Rattle.asn_base.specs.Abstract.{AbstractValue, boolean, integer, enumerated, bits, octets, text, null as null'}
use Rattle.asn_base.specs.Abstract.{oid, relative_oid, fields as fields', list, alternative, Row, end, absent, present}
use Rattle.asn_base.specs.Schemas.{components}
use Rattle.asn_base.specs.Types.{Component, Resolved}
use Rattle.trees.specs.Values.{Name, Tree, yes, no, null, number, binary, hex, chars, reference, chosen, nothing}
use Rattle.trees.specs.Values.{numbers, items, fields, trees, named_trees}
use Rattle.value_text.specs.Print.{is_line_end, kind_at, items_in, name_with, name_in, element_in, alternatives_in}

abbrev pub bit_values : List Bool → List ℕ
bit_values = map (λ b. if b then 1 else 0)

-- the two digits of each octet
abbrev pub nibbles : List ℕ → List ℕ
nibbles [] = []
nibbles (b ∷ o) = b / 16 ∷ b % 16 ∷ nibbles o

-- one number in braces is a value, more are numbers
abbrev pub numbers_tree : List ℕ → Tree
numbers_tree [] = nothing
numbers_tree (n ∷ []) = items (trees (number (pos n) ∷ []))
numbers_tree (m ∷ n ∷ ns) = numbers (m ∷ n ∷ ns)

abbrev pub fields_tree : List (Name × Tree) → Tree
fields_tree [] = nothing
fields_tree (m ∷ ms) = fields (named_trees (m ∷ ms))

abbrev pub items_tree : List Tree → Tree
items_tree [] = nothing
items_tree (t ∷ ts) = items (trees (t ∷ ts))

abbrev mutual
  pub tree_of : List Resolved → ℕ → AbstractValue → Tree
  tree_of s t (boolean b) = if b then yes else no
  tree_of s t (integer z) = number z
  tree_of s t (enumerated z) = reference None (name_in (name_with (items_in (kind_at s t)) z))
  tree_of s t (bits b) = binary (bit_values b)
  tree_of s t (octets o) = hex (nibbles o)
  -- a text in which a line ends is printed as its octets
  tree_of s t (text o) = if list_any is_line_end o then hex (nibbles o) else chars o
  tree_of s t null' = null
  tree_of s t (oid ns) = numbers_tree ns
  tree_of s t (relative_oid ns) = numbers_tree ns
  tree_of s t (fields' vs) = fields_tree (members_of s (components (kind_at s t)) vs)
  tree_of s t (list vs) = elim (element_in (kind_at s t)) [
    | None ↦ nothing
    | Some u ↦ items_tree (trees_of s u vs)
  ]
  tree_of s t (alternative i v) = elim (slice_get (alternatives_in (kind_at s t)) i) [
    | None ↦ nothing
    | Some a ↦ chosen a.name (tree_of s a.type v)
  ]

  -- the components that are present, with their names
  pub members_of : List Resolved → List Component → Row → List (Name × Tree)
  members_of s [] vs = []
  members_of s (c ∷ cs) end = []
  members_of s (c ∷ cs) (absent vs) = members_of s cs vs
  members_of s (c ∷ cs) (present v vs) = (c.name, tree_of s c.type v) ∷ members_of s cs vs

  pub trees_of : List Resolved → ℕ → Row → List Tree
  trees_of s u end = []
  trees_of s u (absent vs) = trees_of s u vs
  trees_of s u (present v vs) = tree_of s u v ∷ trees_of s u vs
