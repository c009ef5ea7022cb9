-- The list of nodes that spells a tree: each node comes before those below it, and says how many nodes it has with
-- them. A decoded value is kept in this form (own rule).
use Rattle.std.specs.Prelude.{ℕ, ◌+◌, List, [], ◌∷◌, ◌++◌, length}
use Rattle.views.specs.Tree.{Leaf, ViewTree, leaf, fields, list, alternative, ViewMembers, no_member, member}

-- what a node says; a node that holds others also says its extent: how many nodes it is with all below it
pub data NodeContent : Type 0 where
  a_leaf : Leaf → NodeContent
  some_fields : (size extent : ℕ) → NodeContent
  some_elements : (extent : ℕ) → NodeContent
  an_alternative : (index extent : ℕ) → NodeContent

-- a node, with the number of the component that it is
pub record Node : Type 0 where
  pub number : ℕ
  pub content : NodeContent

-- the node with this number of a component that says this
abbrev pub node : ℕ → NodeContent → Node
node k w = record { number = k; content = w }

abbrev mutual
  -- the nodes of a tree that is the component with this number
  pub nodes : ℕ → ViewTree → List Node
  nodes k (leaf l) = node k (a_leaf l) ∷ []
  nodes k (fields n ms) = node k (some_fields n (length (member_nodes ms) + 1)) ∷ member_nodes ms
  nodes k (list ms) = node k (some_elements (length (member_nodes ms) + 1)) ∷ member_nodes ms
  nodes k (alternative i t) = node k (an_alternative i (length (nodes 0 t) + 1)) ∷ nodes 0 t

  -- the nodes of all the members, in order
  pub member_nodes : ViewMembers → List Node
  member_nodes no_member = []
  member_nodes (member k t ms) = nodes k t ++ member_nodes ms

-- how many nodes it is with all below it
abbrev pub extent : NodeContent → ℕ
extent (a_leaf l) = 1
extent (some_fields size e) = e
extent (some_elements e) = e
extent (an_alternative index e) = e

-- the same with this extent; a leaf stays as it is
abbrev pub with_extent : NodeContent → ℕ → NodeContent
with_extent (a_leaf l) e = a_leaf l
with_extent (some_fields size d) e = some_fields size e
with_extent (some_elements d) e = some_elements e
with_extent (an_alternative index d) e = an_alternative index e
