-- Worked rows for what a writer promises: the octets in a sink, the order of members, the rows of an account, and the
-- number of octets that it gives. For each row that holds there are others that must not hold.
use Rattle.std.proofs.Common.{arith, lit<, ◌≡◌, ℕ, ◌<◌, ◌≤◌, true, false, List, [], ◌∷◌, length, inl, inr, refl, ap}
use Rattle.std.specs.Prelude.{Some}
use Rattle.asn_base.specs.declared.tag.Class.TheVariants.{Universal}
use Rattle.asn_base.specs.declared.tag.Tag.{Tag}
use Rattle.encodings.specs.Account.{Numbers, Account, header, leaf_row, wrap_row, seq_row, seqof_row, set_row, setof_row, no_row, absent_row, default_row, written}
use Rattle.encodings.specs.Fewest.{shortest_header}
use Rattle.encodings.specs.Header.{identifier}
use Rattle.encodings.specs.Orders.{ascending_one, ascending_more}
use Rattle.codec_code.specs.declared.step.RowKind.TheVariants.{Leaf, Wrap, Sequence, Set, SequenceOf, SetOf}
use Rattle.codec_code.specs.Events.{opens, puts, closes, leaves_out, ends_member, by_octets, by_rank, row_of_order, Tree, done, piece, lacking, within, ordered, no_member, no_component, member, flat, SetMember, InOrder}
use Rattle.octet_account.specs.Flat.{a_leaf, a_wrap, a_seq, a_seqof, a_set, a_setof, an_absent, a_default, rows_of, AreSmall, IsWithin}
use Rattle.account_rows.specs.RowLayout.{header_numbers, header_row, left_row, rows_in, rows_among}
use Rattle.account_rows.specs.Lengths.{octets_in}
use Rattle.der_writer.specs.Encoded.{total_octets}
use Rattle.sinks.specs.Sent.{SinkState, state, SentAll, SentFront}

abbrev universal : (n : ℕ) → n < 2147483648 → 0 < n → Tag
universal n h k = record { class = Universal; number = n; in_range = h; not_reserved = λ e. k }

abbrev u1 : Tag
u1 = universal 1 (lit< tt) (lit< tt)

abbrev u17 : Tag
u17 = universal 17 (lit< tt) (lit< tt)

-- ---- what went out: the octets 300102 after 05

abbrev sent : List ℕ
sent = 48 ∷ 1 ∷ 2 ∷ []

-- a sink that holds 05, of which two calls failed
abbrev before : SinkState
before = state (Some (5 ∷ [])) 2

abbrev holds : List ℕ → ℕ → SinkState
holds xs n = state (Some (5 ∷ xs)) n

pub all_sent : SentAll before (holds sent 2) sent
all_sent = record { taken = refl; none_failed = refl }

pub not_all_but_one : SentAll before (holds (48 ∷ 1 ∷ []) 2) sent → ⊥
not_all_but_one s = let h : 3 ≡ 4 = ap length s.taken in omega (arith, h)

pub not_one_more : SentAll before (holds (48 ∷ 1 ∷ 2 ∷ 0 ∷ []) 2) sent → ⊥
not_one_more s = let h : 5 ≡ 4 = ap length s.taken in omega (arith, h)

pub not_in_place_of_what_was_held : SentAll before (state (Some sent) 2) sent → ⊥
not_in_place_of_what_was_held s = let h : 3 ≡ 4 = ap length s.taken in omega (arith, h)

pub no_call_fails : SentAll before (holds sent 3) sent → ⊥
no_call_fails s = let h : 3 ≡ 2 = s.none_failed in omega (arith, h)

pub failures_stay : SentAll before (holds sent 0) sent → ⊥
failures_stay s = let h : 0 ≡ 2 = s.none_failed in omega (arith, h)

pub two_of_three : SentFront before (holds (48 ∷ 1 ∷ []) 3) sent 2
two_of_three = record { fewer = lit< tt; taken = refl; one_failed = refl }

pub none_of_three : SentFront before (holds [] 3) sent 0
none_of_three = record { fewer = lit< tt; taken = refl; one_failed = refl }

-- all octets aren't a part of them
pub not_three_of_three : SentFront before (holds sent 3) sent 3 → ⊥
not_three_of_three s = let h : 3 < 3 = s.fewer in omega (arith, h)

-- more octets are reported than went out, or fewer
pub not_two_where_one_went : SentFront before (holds (48 ∷ []) 3) sent 2 → ⊥
not_two_where_one_went s = let h : 2 ≡ 3 = ap length s.taken in omega (arith, h)

pub not_none_where_one_went : SentFront before (holds (48 ∷ []) 3) sent 0 → ⊥
not_none_where_one_went s = let h : 2 ≡ 1 = ap length s.taken in omega (arith, h)

-- 72 of a sink that didn't fail, and a call that was tried again
pub not_without_a_failure : SentFront before (holds (48 ∷ []) 2) sent 1 → ⊥
not_without_a_failure s = let h : 2 ≡ 3 = s.one_failed in omega (arith, h)

pub not_with_two_failures : SentFront before (holds (48 ∷ []) 4) sent 1 → ⊥
not_with_two_failures s = let h : 4 ≡ 3 = s.one_failed in omega (arith, h)

-- ---- the order of members

abbrev part : ℕ → List ℕ → SetMember
part r o = record { rank = r; octets = o }

-- components by their ranks, whatever their octets
pub by_ranks : InOrder by_rank (part 0 (129 ∷ []) ∷ part 1 (128 ∷ []) ∷ part 4 [] ∷ [])
by_ranks = ((omega arith, (omega arith, tt)), ((omega arith, tt), (tt, tt)))

pub not_the_other_way_round : InOrder by_rank (part 1 (128 ∷ []) ∷ part 0 (129 ∷ []) ∷ []) → ⊥
not_the_other_way_round h = let k : 1 ≤ 0 = h.0.0 in omega (arith, k)

-- not the neighbours alone
pub not_the_last_below_the_first : InOrder by_rank (part 1 [] ∷ part 1 [] ∷ part 0 [] ∷ []) → ⊥
not_the_last_below_the_first h = let k : 1 ≤ 0 = h.0.1.0 in omega (arith, k)

-- elements by their octets, whatever their ranks
pub by_their_octets : InOrder by_octets (part 7 (2 ∷ 1 ∷ []) ∷ part 0 (2 ∷ 2 ∷ []) ∷ [])
by_their_octets = ascending_more (inr (refl, inl (lit< tt))) ascending_one

-- ---- events: SET OF BOOLEAN, two members and one that is left out

abbrev leaf_tree : ℕ → Tree
leaf_tree n = within u1 false Leaf (piece (n ∷ []) done) done

abbrev set_tree : Tree
set_tree = ordered u17 by_octets
    (member 0 (leaf_tree 255) (no_component true (member 0 (leaf_tree 0) no_member))) (lacking false done)

pub its_events : flat set_tree
    ≡ opens u17 true SetOf
    ∷ opens u1 false Leaf ∷ puts (255 ∷ []) ∷ closes ∷ ends_member 0
    ∷ leaves_out true
    ∷ opens u1 false Leaf ∷ puts (0 ∷ []) ∷ closes ∷ ends_member 0
    ∷ closes ∷ leaves_out false ∷ []
its_events = refl

pub a_set_by_ranks : row_of_order by_rank ≡ Set
a_set_by_ranks = refl

-- three members, of which one is left out; the header, and the octets after it
pub its_members : rows_among (member 0 (leaf_tree 255) (no_component true (member 0 (leaf_tree 0) no_member))) ≡ 3
its_members = refl

pub its_rows : rows_in set_tree ≡ 2
its_rows = refl

-- ---- numbers of headers

pub of_a_truth : header_numbers u1 false 1
    ≡ record { identifier = 1; size = 1; contents = 1 }
unfolding identifier
of_a_truth = refl

pub what_is_left_out : (left_row true ≡ a_default) × (left_row false ≡ an_absent)
what_is_left_out = (refl, refl)

abbrev z : Numbers
z = record { identifier = 1; size = 1; contents = 6 }

pub rows_of_each_kind : (header_row Leaf z 0 [] [] ≡ a_leaf z)
    × (header_row Wrap z 1 [] [] ≡ a_wrap z)
    × (header_row Sequence z 2 [] [] ≡ a_seq z 2)
    × (header_row SequenceOf z 2 [] [] ≡ a_seqof z 2)
    × (header_row Set z 2 (1 ∷ 0 ∷ []) (0 ∷ 1 ∷ []) ≡ a_set z 2 (1 ∷ 0 ∷ []) (0 ∷ 1 ∷ []))
    × (header_row SetOf z 2 (1 ∷ 0 ∷ []) (0 ∷ 1 ∷ []) ≡ a_setof z 2 (1 ∷ 0 ∷ []) (0 ∷ 1 ∷ []))
rows_of_each_kind = (refl, refl, refl, refl, refl, refl)

-- ---- rows of accounts

abbrev one : Numbers
one = record { identifier = 1; size = 1; contents = 1 }

abbrev leaf : Account
leaf = header one leaf_row

-- 30 0D: a SEQUENCE with an absent component, a default, a boolean and an explicit tag; all rows from the root down
pub rows_from_the_root : rows_of (header z (seq_row (absent_row (default_row (written leaf (written (header z (wrap_row leaf)) no_row))))))
    ≡ a_seq z 4 ∷ an_absent ∷ a_default ∷ a_leaf one ∷ a_wrap z ∷ a_leaf one ∷ []
rows_from_the_root = refl

pub rows_of_a_list : rows_of (header z (seqof_row (written leaf no_row))) ≡ a_seqof z 1 ∷ a_leaf one ∷ []
rows_of_a_list = refl

pub rows_of_a_set : rows_of (header z (set_row (written leaf no_row) (0 ∷ []) (0 ∷ []))) ≡ a_set z 1 (0 ∷ []) (0 ∷ []) ∷ a_leaf one ∷ []
rows_of_a_set = refl

pub rows_of_a_set_of : rows_of (header z (setof_row (written leaf (written leaf no_row)) (1 ∷ 0 ∷ []) (0 ∷ 1 ∷ [])))
    ≡ a_setof z 2 (1 ∷ 0 ∷ []) (0 ∷ 1 ∷ []) ∷ a_leaf one ∷ a_leaf one ∷ []
rows_of_a_set_of = refl

-- no member of a list is left out, but components are
pub component_left_out : IsWithin 2 (header z (seq_row (absent_row no_row)))
component_left_out = (record { identifier_small = omega arith; size_small = omega arith; contents_small = omega arith }, (omega arith, (omega arith, tt)))

pub no_element_left_out : IsWithin 2 (header z (seqof_row (absent_row no_row))) → ⊥
no_element_left_out h = h.1.2

pub no_default_in_a_set_of : IsWithin 2 (header z (setof_row (default_row no_row) [] [])) → ⊥
no_default_in_a_set_of h = h.1.2

abbrev small_one : AreSmall one
small_one = record { identifier_small = omega arith; size_small = omega arith; contents_small = omega arith }

-- one level for each header, and none left below the last
pub two_deep : IsWithin 2 (header one (wrap_row leaf))
two_deep = (small_one, (small_one, tt))

pub not_one_deep : IsWithin 1 (header one (wrap_row leaf)) → ⊥
not_one_deep h = h.1

-- ---- how many octets are given

pub eight_octets : total_octets (header z (seq_row no_row)) ≡ 8
eight_octets = refl

pub of_a_long_tag : total_octets (header (record { identifier = 3; size = 2; contents = 128 }) leaf_row) ≡ 133
of_a_long_tag = refl

-- 310601010001 01FF: two headers of two octets and an octet each, within one of two
pub octets_of_a_set : octets_in set_tree ≡ 8
unfolding identifier shortest_header
octets_of_a_set = refl
