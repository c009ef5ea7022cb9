-- The contents of a table after each event of a routine.
use Rattle.std.specs.Prelude.{◌≡◌, ℕ, suc, ◌+◌, ◌-◌, ◌<◌, ◌⊎◌, Bool, List, [], ◌∷◌, ◌++◌, length, map, set, take, drop}
use Rattle.std.specs.List.Sorted.{IsPermutation}
use Rattle.std.proofs.Common.{subst, sym}
use Rattle.asn_base.specs.declared.tag.Tag.{Tag}
use Rattle.encodings.specs.Header.{Octets, identifier}
use Rattle.encodings.specs.Fewest.{shortest_header, shortest_size}
use Rattle.codec_code.specs.declared.step.Head.{Head as Head'}
use Rattle.codec_code.specs.declared.step.RowKind.{RowKind}
use Rattle.codec_code.specs.declared.step.RowKind.TheVariants.{Leaf, Wrap, Sequence, Set, SequenceOf, SetOf}
use Rattle.codec_code.specs.Events.{Event, opens, puts, closes, leaves_out, ends_member, Order, by_octets, by_rank}
use Rattle.codec_code.specs.Events.{SetMember as Placed, InOrder as OctetsInOrder}
use Rattle.codec_machine.specs.declared.open_row.OpenRow.{OpenRow}
use Rattle.der_layout.specs.declared.table.Open.{Open}
use Rattle.der_layout.specs.declared.table.Member.{Member}
use Rattle.der_layout.specs.declared.table.Group.{Group}
use Rattle.der_layout.specs.declared.table.Table.{Table}
use Rattle.octet_account.specs.Flat.{FlatRow, a_leaf, an_absent}
use Rattle.octet_account.specs.Seen.{flat}
use Rattle.account_rows.specs.RowLayout.{header_row, left_row}
use Rattle.der_layout.specs.Rows.{listed, capped_header, numbers_in, places_by}

-- The octets and rows so far, and the open headers, SETs and SET OFs. One octet is held open for the length of each
-- open header. `members` is how many members the innermost open header has.
pub record State : Type 0 where
  pub octets : Octets
  pub opened : List Open
  pub groups : List Group
  pub rows : List FlatRow
  pub members : ℕ

abbrev pub state_of : Table → State
state_of t = record {
  octets = t.octets.items;
  opened = t.opened.items;
  groups = t.groups.items;
  rows = flat t.rows.items;
  members = t.members;
}

-- a header that is opened in a state
abbrev pub an_open : Tag → Bool → RowKind → State → Open
an_open g c k a = record {
  place = length (a.octets ++ identifier g.class g.number c);
  row = length a.rows;
  head = record { tag = g; constructed = c; row = k };
  members_before = a.members;
}

-- what follows the octet at a place
abbrev pub after : ℕ → Octets → Octets
after n o = drop (suc n) o

-- the octets, with the length of what follows a place in place of the octet there
abbrev pub with_size : ℕ → Octets → Octets
with_size n o = take n o ++ (shortest_size (length (after n o)) ++ after n o)

-- the octets of a member
abbrev pub span : Octets → Member → Octets
span o m = drop m.start (take m.end o)

-- the octets of the members, one member after another
abbrev pub spans : Octets → List Member → Octets
spans o [] = []
spans o (m ∷ ms) = span o m ++ spans o ms

-- the rank and the octets of a member
abbrev pub placed_of : Octets → Member → Placed
placed_of o m = record { rank = m.rank; octets = span o m }

-- the same members in their order
pub record Sorted (a : Order) (o : Octets) (ms ns : List Member) : Type 0 where
  pub same : IsPermutation ms ns
  pub in_order : OctetsInOrder a (map (placed_of o) ns)

-- ---- opening a header

-- the identifier octets, and one octet that is held open for the length
pub record HeaderOpens (g : Tag) (c : Bool) (k : RowKind) (a b : State) : Type 0 where
  pub octets_are : b.octets ≡ (a.octets ++ identifier g.class g.number c) ++ 0 ∷ []
  pub opened_are : b.opened ≡ a.opened ++ an_open g c k a ∷ []
  pub groups_are : b.groups ≡ a.groups
  pub rows_are : b.rows ≡ a.rows ++ an_absent ∷ []
  pub members_are : b.members ≡ 0

-- the members of a SET or SET OF start after the octets so far
pub record MembersBegin (a b : State) : Type 0 where
  pub group : Group
  pub start_is : group.start ≡ length a.octets
  pub next_is : group.next ≡ length a.octets
  pub no_members : group.members.items ≡ []
  pub octets_are : b.octets ≡ a.octets
  pub opened_are : b.opened ≡ a.opened
  pub groups_are : b.groups ≡ a.groups ++ group ∷ []
  pub rows_are : b.rows ≡ a.rows
  pub members_are : b.members ≡ a.members

abbrev pub GroupBegins : RowKind → State → State → Type 0
GroupBegins Set a b = MembersBegin a b
GroupBegins SetOf a b = MembersBegin a b
GroupBegins Leaf a b = a ≡ b
GroupBegins Wrap a b = a ≡ b
GroupBegins Sequence a b = a ≡ b
GroupBegins SequenceOf a b = a ≡ b

-- ---- contents

pub record ContentsAdded (x : Octets) (a b : State) : Type 0 where
  pub octets_are : b.octets ≡ a.octets ++ x
  pub opened_are : b.opened ≡ a.opened
  pub groups_are : b.groups ≡ a.groups
  pub rows_are : b.rows ≡ a.rows
  pub members_are : b.members ≡ a.members

-- ---- a component that isn't encoded

pub record LeftOut (d : Bool) (a b : State) : Type 0 where
  pub octets_are : b.octets ≡ a.octets
  pub opened_are : b.opened ≡ a.opened
  pub groups_are : b.groups ≡ a.groups
  pub rows_are : b.rows ≡ a.rows ++ left_row d ∷ []
  pub members_are : b.members ≡ listed (a.members + 1)

-- ---- the end of a member

-- the octets since the last member are those of one more member
pub record MemberEnds (rank : ℕ) (a b : State) : Type 0 where
  pub outer : List Group
  pub group : Group
  pub larger : Group
  pub member : Member
  pub from : a.groups ≡ outer ++ group ∷ []
  pub groups_are : b.groups ≡ outer ++ larger ∷ []
  pub start_is : larger.start ≡ group.start
  pub next_is : larger.next ≡ length a.octets
  pub larger_are : larger.members.items ≡ group.members.items ++ member ∷ []
  pub rank_is : member.rank ≡ rank
  pub number_is : member.number ≡ length group.members.items
  pub starts : member.start ≡ group.next
  pub ends : member.end ≡ length a.octets
  pub octets_are : b.octets ≡ a.octets
  pub opened_are : b.opened ≡ a.opened
  pub rows_are : b.rows ≡ a.rows
  pub members_are : b.members ≡ a.members

-- ---- closing a header

-- The octets of the members are put in their order. p has the places of the members, and q the number of the member at
-- each place.
pub record MembersEnd (o : Order) (p q : List ℕ) (a b : State) : Type 0 where
  pub group : Group
  pub sorted : List Member
  pub from : a.groups ≡ b.groups ++ group ∷ []
  pub in_order : Sorted o a.octets group.members.items sorted
  pub octets_are : b.octets ≡ take group.start a.octets ++ (spans a.octets sorted ++ drop group.next a.octets)
  pub opened_are : b.opened ≡ a.opened
  pub rows_are : b.rows ≡ a.rows
  pub members_are : b.members ≡ a.members
  pub places_are : p ≡ map listed (places_by (numbers_in sorted))
  pub inverse_are : q ≡ map listed (numbers_in sorted)

abbrev pub MembersEndIfAny : Order → List ℕ → List ℕ → State → State → Type 0
MembersEndIfAny o p q a b = ((a.groups ≡ []) × (a ≡ b)) ⊎ MembersEnd o p q a b

abbrev pub NoneEnds : List ℕ → List ℕ → State → State → Type 0
NoneEnds p q a b = (p ≡ []) × (q ≡ []) × (a ≡ b)

abbrev pub GroupEnds : RowKind → List ℕ → List ℕ → State → State → Type 0
GroupEnds Set p q a b = MembersEndIfAny by_rank p q a b
GroupEnds SetOf p q a b = MembersEndIfAny by_octets p q a b
GroupEnds Leaf p q a b = NoneEnds p q a b
GroupEnds Wrap p q a b = NoneEnds p q a b
GroupEnds Sequence p q a b = NoneEnds p q a b
GroupEnds SequenceOf p q a b = NoneEnds p q a b

abbrev pub taken : State → List Open → State
taken a os = record {
  octets = a.octets;
  opened = os;
  groups = a.groups;
  rows = a.rows;
  members = a.members;
}

-- the header gets its length octets, and its row gets its numbers and members
pub record HeaderCloses (one : Open) (p q : List ℕ) (a b : State) : Type 0 where
  pub octets_are : b.octets ≡ with_size one.place a.octets
  pub opened_are : b.opened ≡ a.opened
  pub groups_are : b.groups ≡ a.groups
  pub rows_are : b.rows
      ≡ set a.rows one.row
      (header_row one.head.row
      (capped_header one.head.tag one.head.constructed (length (after one.place a.octets)))
      (listed a.members) p q)
  pub members_are : b.members ≡ listed (one.members_before + 1)

pub record Closes (a d : State) : Type 0 where
  pub one : Open
  pub others : List Open
  pub within : State
  pub places : List ℕ
  pub inverse : List ℕ
  pub from : a.opened ≡ others ++ one ∷ []
  pub group_ends : GroupEnds one.head.row places inverse (taken a others) within
  pub header_closes : one.place < length within.octets → HeaderCloses one places inverse within d

-- a header, contents octets and the end of the header are added in one step
pub record WholeAdded (h : Head') (x : Octets) (a b : State) : Type 0 where
  pub octets_are : b.octets ≡ a.octets ++ (shortest_header h.tag h.constructed (length x) ++ x)
  pub opened_are : b.opened ≡ a.opened
  pub groups_are : b.groups ≡ a.groups
  pub rows_are : b.rows ≡ a.rows ++ a_leaf (capped_header h.tag h.constructed (length x)) ∷ []
  pub members_are : b.members ≡ listed (a.members + 1)

-- ---- an open row

-- the same as `WholeAdded`, but it isn't counted
pub record WholePut (h : Head') (x : Octets) (a b : State) : Type 0 where
  pub octets_are : b.octets ≡ a.octets ++ (shortest_header h.tag h.constructed (length x) ++ x)
  pub opened_are : b.opened ≡ a.opened
  pub groups_are : b.groups ≡ a.groups
  pub rows_are : b.rows ≡ a.rows ++ a_leaf (capped_header h.tag h.constructed (length x)) ∷ []
  pub members_are : b.members ≡ a.members

-- the same as `LeftOut`, but it isn't counted
pub record LeftPut (d : Bool) (a b : State) : Type 0 where
  pub octets_are : b.octets ≡ a.octets
  pub opened_are : b.opened ≡ a.opened
  pub groups_are : b.groups ≡ a.groups
  pub rows_are : b.rows ≡ a.rows ++ left_row d ∷ []
  pub members_are : b.members ≡ a.members

-- the header of an open row, among the open headers
abbrev pub open_of : OpenRow → ℕ → Open
open_of row n = record {
  place = row.place;
  row = row.row;
  head = record { tag = row.tag; constructed = row.constructed; row = Sequence };
  members_before = n;
}

-- how many members the open row has: each has one row
abbrev pub members_in : OpenRow → List FlatRow → ℕ
members_in row rs = listed (length rs - suc row.row)

-- the state in which the header of an open row is the innermost open one
abbrev pub within_row : OpenRow → State → State
within_row row a = record {
  octets = a.octets;
  opened = a.opened ++ open_of row a.members ∷ [];
  groups = a.groups;
  rows = a.rows;
  members = members_in row a.rows;
}

-- ---- all events

abbrev pub Stepped : Event → State → State → Type 0
Stepped (opens g c k) a d = (b : State) × HeaderOpens g c k a b × GroupBegins k b d
Stepped (puts x) a d = ContentsAdded x a d
Stepped closes a d = ((a.opened ≡ []) × (a ≡ d)) ⊎ Closes a d
Stepped (leaves_out b) a d = LeftOut b a d
Stepped (ends_member r) a d = ((a.groups ≡ []) × (a ≡ d)) ⊎ MemberEnds r a d

abbrev pub Runs : List Event → State → State → Type 0
Runs [] a b = a ≡ b
Runs (e ∷ es) a c = (b : State) × Stepped e a b × Runs es b c

-- one run after another
pub runs_more : (es fs : List Event) (a b c : State) → Runs es a b → Runs fs b c → Runs (es ++ fs) a c
runs_more [] fs a b c e k = subst (λ q. Runs fs q c) (sym e) k
runs_more (e ∷ es) fs a b c h k = (h.0, h.1, runs_more es fs h.0 b c h.2 k)

-- the open row has its place in the second state, which is the first one with these events, but for the row's header
pub record RunsTo (es : List Event) (row : OpenRow) (a b : State) : Type 0 where
  pub placed : row.row < length b.rows
  pub runs : Runs es a (within_row row b)
