-- A tree while it is built: nodes are added in the order of the message.
use Rattle.std.specs.Prelude.{◌≡◌, ℕ, List, [], ◌∷◌, ◌++◌, length}
use Rattle.views.specs.Tree.{AreBorrowed, Leaf, ViewTree, leaf, fields, list, alternative, ViewMembers, no_member, member, joined}
use Rattle.views.specs.Nodes.{NodeContent, some_fields, some_elements, an_alternative, Node, node, member_nodes}

-- an open node: a row of size components, a list, or the alternative with an index
pub data Header : Type 0 where
  open_fields : (size : ℕ) → Header
  open_list : Header
  open_alternative : (index : ℕ) → Header

-- an open node, with the number of the component that it is, and the members before it in the node that holds it
pub record Waiting : Type 0 where
  pub number : ℕ
  pub header : Header
  pub before : ViewMembers

-- the members so far of the innermost open node, or of the whole if no node is open; and the open nodes, the innermost
-- first
pub record Building : Type 0 where
  pub here : ViewMembers
  pub waits : List Waiting

-- a tree of which nothing is built yet
abbrev pub begun : Building
begun = record { here = no_member; waits = [] }

-- the same with one more member: the component with number k, tree t
abbrev pub with_tree : ℕ → ViewTree → Building → Building
with_tree k t b = record { here = joined b.here (member k t no_member); waits = b.waits }

abbrev pub with_leaf : ℕ → Leaf → Building → Building
with_leaf k l b = with_tree k (leaf l) b

-- the same with one more open node: the component with number k
abbrev pub opened : ℕ → Header → Building → Building
opened k h b = record { here = no_member; waits = record { number = k; header = h; before = b.here } ∷ b.waits }

-- an open node with these members is this tree once it is closed; an alternative has exactly one member, number 0
pub data Closes : Header → ViewMembers → ViewTree → Type 0 where
  closes_fields : {n : ℕ} {ms : ViewMembers} → Closes (open_fields n) ms (fields n ms)
  closes_list : {ms : ViewMembers} → Closes open_list ms (list ms)
  closes_alternative : {i : ℕ} {t : ViewTree} → Closes (open_alternative i) (member 0 t no_member) (alternative i t)

-- the innermost open node closes with this tree
pub record IsClosed (a : Building) (w : Waiting) (ws : List Waiting) (t : ViewTree) (b : Building) : Type 0 where
  pub is_open : a.waits ≡ w ∷ ws
  pub tree : Closes w.header a.here t
  pub closed : b ≡ record { here = joined w.before (member w.number t no_member); waits = ws }

-- the header of an open node, with extent 0 as long as it is open
abbrev pub open_content : Header → NodeContent
open_content (open_fields n) = some_fields n 0
open_content open_list = some_elements 0
open_content (open_alternative i) = an_alternative i 0

-- the nodes of the open nodes and of the members before each of them, in order
abbrev pub waiting_nodes : List Waiting → List Node
waiting_nodes [] = []
waiting_nodes (w ∷ ws) = (waiting_nodes ws ++ member_nodes w.before) ++ node w.number (open_content w.header) ∷ []

abbrev pub built_nodes : Building → List Node
built_nodes b = waiting_nodes b.waits ++ member_nodes b.here

-- the index of each open node in the list of nodes, the outermost first
abbrev pub places : List Waiting → List ℕ
places [] = []
places (w ∷ ws) = places ws ++ length (waiting_nodes ws ++ member_nodes w.before) ∷ []

-- each string with a place, of the members before open nodes, is the message's octets at that place
abbrev pub AreWaitingBorrowed : List ℕ → List Waiting → Type 0
AreWaitingBorrowed message [] = Unit {0}
AreWaitingBorrowed message (w ∷ ws) = AreBorrowed message w.before × AreWaitingBorrowed message ws

pub record IsBorrowedSoFar (message : List ℕ) (b : Building) : Type 0 where
  pub here : AreBorrowed message b.here
  pub waits : AreWaitingBorrowed message b.waits
