-- The conditions under which rows follow a type and a value, row by row.
use Rattle.std.specs.Prelude.{◌≡◌, ℕ, suc, ◌+◌, List, [], ◌∷◌, ◌++◌, Option, Some, None, slice_get, get_or, length}
use Rattle.asn_base.specs.declared.tag.Tag.{Tag}
use Rattle.std.specs.List.{sum}
use Rattle.asn_base.specs.Abstract.{AbstractValue, Row, fields, list, alternative}
use Rattle.asn_base.specs.Types.{Alternative, Kind, default, Component, Resolved}
use Rattle.encodings.specs.Header.{Octets}
use Rattle.encodings.specs.Encoding.{IsDefault}
use Rattle.encodings.specs.Account.{Account, Rows, absent_row, default_row, written, ArePlaces}
use Rattle.octet_account.specs.Flat.{FlatRow, a_leaf, a_wrap, a_seq, a_seqof, a_set, a_setof, an_absent, a_default}
use Rattle.octet_account.specs.Flat.{count, member_rows, rows_of}
use Rattle.account_checker.specs.declared.checks.Checks.{Checks}
use Rattle.account_checker.specs.declared.order.Order.{Order}
use Rattle.account_checker.specs.declared.order.Order.TheVariants.{InOrder, Placed}
use Rattle.account_checker.specs.Follows.{Checked, Slice, HasNoDefault, total_octets, sizes, before, by_place, Follows}
use Rattle.account_checker.specs.Follows.{Under}
use Rattle.account_checker.specs.Follows.{MembersFollow, ElementsFollow}

-- a member of an account: its component is absent, is left out because of its DEFAULT, or is encoded
pub data Member : Type 0 where
  is_absent : Member
  is_default : Member
  is_written : Account → Member

abbrev pub put : Member → Rows → Rows
put is_absent rs = absent_row rs
put is_default rs = default_row rs
put (is_written a) rs = written a rs

-- the rows of a member
abbrev pub rows_in : Member → List FlatRow
rows_in is_absent = an_absent ∷ []
rows_in is_default = a_default ∷ []
rows_in (is_written a) = rows_of a

-- how many octets the rows of a member give, or None if it isn't encoded
abbrev pub size_in : Member → Option ℕ
size_in is_absent = None
size_in is_default = None
size_in (is_written a) = Some (total_octets a)

-- this number of octets, or 0 for None
abbrev pub size_or : Option ℕ → ℕ
size_or None = 0
size_or (Some n) = n

-- 1 for a number, and 0 for None
abbrev pub count_or : Option ℕ → ℕ
count_or None = 0
count_or (Some n) = 1

-- the component has a DEFAULT
abbrev pub HasDefault : Component → Type 0
HasDefault c = (d : AbstractValue) × (c.presence ≡ default d)

-- the account follows the value, and the octets of the account are at the place
abbrev pub WrittenAt : List Resolved → Checks → ℕ → ℕ → AbstractValue → Octets → Account → Type 0
WrittenAt s q place t v x a = (y : Octets) × Slice q.headers x place (total_octets a) y × Follows s q t v y a

-- the member follows a component and its value, and the octets of an encoded member are at the place
abbrev pub MemberAt : List Resolved → Checks → ℕ → Component → Option AbstractValue → Octets → Member → Type 0
MemberAt s q place c None x is_absent = HasNoDefault c
MemberAt s q place c None x is_default = HasDefault c
MemberAt s q place c None x (is_written a) =
    (d : AbstractValue) × (c.presence ≡ default d) × Checked q.omitted ⊥ × WrittenAt s q place c.type d x a
MemberAt s q place c (Some v) x is_absent = ⊥
MemberAt s q place c (Some v) x is_default = HasDefault c × Checked q.omitted (IsDefault s c v)
MemberAt s q place c (Some v) x (is_written a) =
    Checked q.omitted (IsDefault s c v → ⊥) × WrittenAt s q place c.type v x a

-- the member follows an element of type u, and its octets are at the place
abbrev pub ElementAt : List Resolved → Checks → ℕ → ℕ → AbstractValue → Octets → Member → Type 0
ElementAt s q place u v x (is_written a) = WrittenAt s q place u v x a
ElementAt s q place u v x m = ⊥

-- the account follows the value of the alternative with number i
abbrev pub ChosenFollows : List Resolved → Checks → List Alternative → ℕ → AbstractValue → Octets → Account → Type 0
ChosenFollows s q as' i v o a = (b : Alternative) × (slice_get as' i ≡ Some b) × Follows s q b.type v o a

-- Whether account a follows tags is the same as whether account b follows the tag g alone. The rows of b are those of a
-- within the outer headers.
pub record IsOuterOf (q : Checks) (tags : List Tag) (o : Octets) (a : Account) (g : Tag) (x : Octets)
    (b : Account) : Type 0 where
  pub inward : (s : List Resolved) (k : Kind) (v : AbstractValue) → Under s q tags k v o a → Under s q (g ∷ []) k v x b
  pub outward : (s : List Resolved) (k : Kind) (v : AbstractValue) → Under s q (g ∷ []) k v x b → Under s q tags k v o a

-- how many members or rows are directly in this row
abbrev pub members_in : FlatRow → ℕ
members_in (a_leaf z) = 0
members_in (a_wrap z) = 1
members_in (a_seq z n) = n
members_in (a_seqof z n) = n
members_in (a_set z n p i) = n
members_in (a_setof z n p i) = n
members_in an_absent = 0
members_in a_default = 0

-- the offset of the encoded member with number k, if ns has the number of octets of each encoded member
abbrev pub place_in : Order → List ℕ → ℕ → ℕ
place_in InOrder ns k = before ns k
place_in (Placed b) ns k = before (by_place ns b.now.inverse.items) (get_or b.now.places.items k 0)

-- the places are those of n members, if places are checked
abbrev pub AreInOrder : Checks → Order → ℕ → Type 0
AreInOrder q InOrder n = Unit {0}
AreInOrder q (Placed b) n = Checked q.places (ArePlaces n b.now.places.items b.now.inverse.items)

-- how many octets are before place j, if es has the offset at which each place ends
abbrev pub end_before : List ℕ → ℕ → ℕ
end_before es j = get_or (0 ∷ es) j 0

-- the place of the encoded member with number k, which has n octets, ends n octets after its start
abbrev pub EndsAt : List ℕ → List ℕ → ℕ → Option ℕ → Type 0
EndsAt p es k None = Unit {0}
EndsAt p es k (Some n) = end_before es (get_or p k 0) + n ≡ get_or es (get_or p k 0) 0

-- the place of each encoded member from number k on ends at its offset
abbrev pub EndsFrom : List ℕ → List ℕ → ℕ → List ℕ → Type 0
EndsFrom p es k [] = Unit {0}
EndsFrom p es k (n ∷ ns) = EndsAt p es k (Some n) × EndsFrom p es (suc k) ns

-- the ends of places are right: they give the offset of each encoded member
abbrev pub AreEnds : Order → List ℕ → Type 0
AreEnds InOrder ns = Unit {0}
AreEnds (Placed b) ns =
    (k : ℕ) → place_in (Placed b) ns k ≡ end_before b.now.ends.items (get_or b.now.places.items k 0)

-- the ends of places are right for the first n members whose rows these are
abbrev pub AreEndsOf : List FlatRow → ℕ → Order → Type 0
AreEndsOf fs n order =
    (rs : Rows) (rest : List FlatRow) → fs ≡ member_rows rs ++ rest → count rs ≡ n → AreEnds order (sizes rs)

-- the members of a SEQUENCE or SET follow its components, and their rows give n octets
abbrev pub FieldsFollow : List Resolved → Checks → Order → List Component → AbstractValue → ℕ → Octets → Rows → Type 0
FieldsFollow s q order cs v n x rs =
    (vs : Row) × (v ≡ fields vs) × Checked q.numbers (n ≡ sum (sizes rs))
    × AreInOrder q order (length (sizes rs))
    × MembersFollow s q (place_in order (sizes rs)) cs vs 0 x rs

-- the members of a SEQUENCE OF or SET OF follow its elements, and their rows give n octets
abbrev pub ListFollows : List Resolved → Checks → Order → ℕ → AbstractValue → ℕ → Octets → Rows → Type 0
ListFollows s q order u v n x rs =
    (vs : Row) × (v ≡ list vs) × Checked q.numbers (n ≡ sum (sizes rs))
    × AreInOrder q order (length (sizes rs))
    × ElementsFollow s q (place_in order (sizes rs)) u vs 0 x rs

-- an account follows the value of an alternative, for any alternative
abbrev pub ChoiceFollows : List Resolved → Checks → List Alternative → AbstractValue → Octets → Account → Type 0
ChoiceFollows s q as' v o a = (i : ℕ) × (w : AbstractValue) × (v ≡ alternative i w) × ChosenFollows s q as' i w o a

-- if the first list has j at place i, the second list has i at place j
abbrev pub SendsBack : List ℕ → List ℕ → Type 0
SendsBack p q = (i j : ℕ) → slice_get p i ≡ Some j → slice_get q j ≡ Some i
