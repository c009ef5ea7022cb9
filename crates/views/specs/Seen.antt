-- Nodes in memory, seen as nodes without addresses; a builder and a view, seen as trees. A decoded value is kept in
-- this form (own rule).
use Rattle.std.specs.Prelude.{◌≡◌, ℕ, ◌<◌, ◌≤◌, List, length, map, drop, get_or, string_bytes, Some, None}
use Rattle.std.specs.List.{slice_range, AllByRecursion}
use Rattle.std.specs.Prelude.{[]}
use Rattle.views.specs.declared.node.NodeContent.{NodeContent as NodeContent'}
use Rattle.views.specs.declared.node.NodeContent.TheVariants as content
use Rattle.views.specs.declared.node.Node.{Node as Node'}
use Rattle.views.specs.declared.node.Lists.{Lists}
use Rattle.views.specs.declared.builder.Builder.{Builder}
use Rattle.views.specs.PackedI128.{number_of}
use Rattle.views.specs.Tree.{boolean, integer, enumerated, bits, octets, text, null, oid, relative_oid, Leaf, ViewTree, leaf, fields, list, alternative}
use Rattle.views.specs.Tree.{ViewMembers, member}
use Rattle.views.specs.Nodes.{NodeContent, a_leaf, some_fields, some_elements, an_alternative, Node, node, nodes, member_nodes}
use Rattle.views.specs.Spelled.{tree_from, members_from}
use Rattle.views.specs.Building.{Building, built_nodes, places}

-- the lists beside the nodes: joined octets, joined texts, and the numbers of object identifiers
pub record SideLists : Type 0 where
  pub octets : List ℕ
  pub texts : List (List ℕ)
  pub arcs : List ℕ

-- the lists beside the nodes that are in memory
abbrev pub side_lists : Lists → SideLists
side_lists l = record { octets = l.octets.items; texts = map string_bytes l.texts.items; arcs = l.arcs.items }

-- what a node in memory says, with its string or numbers
abbrev pub content_of : SideLists → NodeContent' → NodeContent
content_of b (content.Bool t) = a_leaf (boolean t)
content_of b (content.Int z) = a_leaf (integer (number_of z))
content_of b (content.Enum z) = a_leaf (enumerated (number_of z))
content_of b (content.Bits unused at os) = a_leaf (bits unused os.now (Some at))
content_of b (content.JoinedBits unused from to) = a_leaf (bits unused (slice_range b.octets from to) None)
content_of b (content.Octets at os) = a_leaf (octets os.now (Some at))
content_of b (content.JoinedOctets from to) = a_leaf (octets (slice_range b.octets from to) None)
content_of b (content.Text at s) = a_leaf (text s.now (Some at))
content_of b (content.JoinedText i) = a_leaf (text (get_or b.texts i []) None)
content_of b content.Null = a_leaf null
content_of b (content.Oid from to) = a_leaf (oid (slice_range b.arcs from to))
content_of b (content.RelativeOid from to) = a_leaf (relative_oid (slice_range b.arcs from to))
content_of b (content.Fields size extent) = some_fields size extent
content_of b (content.List extent) = some_elements extent
content_of b (content.Alternative index extent) = an_alternative index extent

-- the node that one in memory is, with its string or numbers from the lists beside the nodes
abbrev pub node_of : SideLists → Node' → Node
node_of b n = node n.number (content_of b n.content)

-- the nodes that these in memory are, in order
abbrev pub nodes_of : SideLists → List Node' → List Node
nodes_of b ns = map (node_of b) ns

-- a range from one index to another, within a list of this length
pub record IsWithin (from to many : ℕ) : Type 0 where
  pub ordered : from ≤ to
  pub within : to ≤ many

-- what a node refers to is within the lists beside the nodes; a BIT STRING has fewer than 8 unused bits, and none if it
-- has no octets
abbrev pub IsContentWithin : SideLists → NodeContent' → Type 0
IsContentWithin b (content.Bool t) = Unit {0}
IsContentWithin b (content.Int z) = Unit {0}
IsContentWithin b (content.Enum z) = Unit {0}
IsContentWithin b (content.Bits unused at os) = (unused < 8) × (length os.now ≡ 0 → unused ≡ 0)
IsContentWithin b (content.JoinedBits unused from to) =
    IsWithin from to (length b.octets) × (unused < 8) × (from ≡ to → unused ≡ 0)
IsContentWithin b (content.Octets at os) = Unit {0}
IsContentWithin b (content.JoinedOctets from to) = IsWithin from to (length b.octets)
IsContentWithin b (content.Text at s) = Unit {0}
IsContentWithin b (content.JoinedText i) = i < length b.texts
IsContentWithin b content.Null = Unit {0}
IsContentWithin b (content.Oid from to) = IsWithin from to (length b.arcs)
IsContentWithin b (content.RelativeOid from to) = IsWithin from to (length b.arcs)
IsContentWithin b (content.Fields size extent) = Unit {0}
IsContentWithin b (content.List extent) = Unit {0}
IsContentWithin b (content.Alternative index extent) = Unit {0}

-- what each node refers to is within the lists beside the nodes; a BIT STRING has fewer than 8 unused bits, and none if
-- it has no octets
abbrev pub AreWithin : SideLists → List Node' → Type 0
AreWithin b ns = AllByRecursion (λ n. IsContentWithin b n.content) ns

-- these nodes, and the places of the open ones, are those of what is built so far
pub record AreBuilt (s : SideLists) (ns : List Node') (hs : List ℕ) (b : Building) : Type 0 where
  pub nodes : nodes_of s ns ≡ built_nodes b
  pub within : AreWithin s ns
  pub places : hs ≡ places b.waits

-- a builder holds what is built so far
abbrev pub HasBuilt : Builder → Building → Type 0
HasBuilt a b = AreBuilt (side_lists a.lists) a.nodes.items a.headers.items b

-- the lists beside the nodes, but with these numbers of object identifiers
abbrev pub with_arcs : List ℕ → SideLists → SideLists
with_arcs ns l = record { octets = l.octets; texts = l.texts; arcs = ns }

-- a builder held what is built so far when it had only these numbers of object identifiers
abbrev pub HadBuilt : Builder → List ℕ → Building → Type 0
HadBuilt a ns b = AreBuilt (with_arcs ns (side_lists a.lists)) a.nodes.items a.headers.items b

-- nodes, with the lists beside them, spell a tree, which is the component with this number
pub record Spell (s : SideLists) (ns : List Node') (k : ℕ) (t : ViewTree) : Type 0 where
  pub nodes : nodes_of s ns ≡ nodes k t
  pub within : AreWithin s ns

-- the same of members
pub record SpellMembers (s : SideLists) (ns : List Node') (ms : ViewMembers) : Type 0 where
  pub nodes : nodes_of s ns ≡ member_nodes ms
  pub within : AreWithin s ns

-- the members of the nodes from a place on
pub record Left (s : SideLists) (ns : List Node') (at : ℕ) (left : ViewMembers) : Type 0 where
  pub nodes : nodes_of s (drop at ns) ≡ member_nodes left
  pub within : AreWithin s ns

-- the first of the members left, with its number; its nodes end before index end
pub record IsNext (s : SideLists) (ns : List Node') (at number end : ℕ) (left : ViewMembers) : Type 0 where
  pub tree : ViewTree
  pub rest : ViewMembers
  pub is : left ≡ member number tree rest
  pub first : Spell s (slice_range ns at end) number tree
  pub after : Left s ns end rest

-- what the first node of a tree says of it, with the nodes below it
pub data FirstIs (s : SideLists) (below : List Node') : NodeContent → ViewTree → Type 0 where
  first_leaf : {l : Leaf} → FirstIs s below (a_leaf l) (leaf l)
  first_fields : {size e : ℕ} {ms : ViewMembers} → SpellMembers s below ms →
      FirstIs s below (some_fields size e) (fields size ms)
  first_list : {e : ℕ} {ms : ViewMembers} → SpellMembers s below ms → FirstIs s below (some_elements e) (list ms)
  first_alternative : {i e : ℕ} {t : ViewTree} → Spell s below 0 t →
      FirstIs s below (an_alternative i e) (alternative i t)

-- nodes spell some tree
abbrev pub IsSpelled : SideLists → List Node' → Type 0
IsSpelled s ns = (k : ℕ) × (t : ViewTree) × Spell s ns k t

-- the nodes from a place on spell some members
abbrev pub AreSpelled : SideLists → List Node' → ℕ → Type 0
AreSpelled s ns at = (ms : ViewMembers) × Left s ns at ms

-- the tree that nodes spell
abbrev pub tree_of : SideLists → List Node' → ViewTree
tree_of s ns = tree_from (nodes_of s ns)

-- the members that the nodes from a place on spell
abbrev pub members_of : SideLists → List Node' → ℕ → ViewMembers
members_of s ns at = members_from (nodes_of s (drop at ns))

-- the tree that nodes spell, if their first one says this
abbrev pub IsHead : SideLists → List Node' → NodeContent → ViewTree → Type 0
IsHead s ns (a_leaf l) t = t ≡ leaf l
IsHead s ns (some_fields size e) t = (t ≡ fields size (members_of s ns 1)) × AreSpelled s ns 1
IsHead s ns (some_elements e) t = (t ≡ list (members_of s ns 1)) × AreSpelled s ns 1
IsHead s ns (an_alternative i e) t = (t ≡ alternative i (tree_of s (drop 1 ns))) × IsSpelled s (drop 1 ns)

-- the members from a place on begin with the one that the nodes up to index end spell, which has this number
pub record BeginWith (s : SideLists) (ns : List Node') (at number end : ℕ) : Type 0 where
  pub are : members_of s ns at ≡ member number (tree_of s (slice_range ns at end)) (members_of s ns end)
  pub first : IsSpelled s (slice_range ns at end)
  pub after : AreSpelled s ns end
