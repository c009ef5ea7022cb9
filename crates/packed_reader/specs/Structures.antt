-- SEQUENCE and SET, decoded from the front of bits (X.691, 11.2, 19 and 21).
use Rattle.std.specs.Prelude.{ℕ, zero, suc, ◌+◌, ◌-◌, ◌==◌, nat_lt, Bool, true, false, not, ◌&&◌, if◌then◌else◌}
use Rattle.std.specs.Prelude.{List, [], ◌∷◌, ◌++◌, length, map, drop}
use Rattle.bits.specs.Words.{octet_bits}
use Rattle.asn_base.specs.Abstract.{AbstractValue, Row, end, absent, present}
use Rattle.asn_base.specs.Types.{TypeNumber, Component, Resolved}
use Rattle.encodings.specs.Header.{Octets}
use Rattle.packed_encodings.specs.Lengths.{Bits}
use Rattle.packed_encodings.specs.Orders.{Member, missing, standing, component, has_bit, Addition, alone, bracketed}
use Rattle.packed_encodings.specs.Packing.{any_set}
use Rattle.packed_encodings.specs.Computed.{is_default}
use Rattle.packed_code.specs.Routines.{place_in}
use Rattle.decode_faults.specs.declared.refusal.Refusal.TheVariants as why
use Rattle.packed_readings.specs.Outcome.{Outcome, found, stops, onward, bit_from, field_from}
use Rattle.packed_readings.specs.Counts.{several_bits, octets_from}
use Rattle.packed_reader.specs.declared.part.Part.{Part}
use Rattle.packed_reader.specs.declared.part.Part.TheVariants.{Component as Component'}
use Rattle.packed_reader.specs.Readings.{Reading, read, refused, stop, next, in_part, plain, tested, Taken, taken}
use Rattle.packed_reader.specs.Levels.{is_within, may_lack}

-- ---- open types

abbrev pub all_clear : Bits → Bool
all_clear [] = true
all_clear (b ∷ bs) = not b && all_clear bs

-- Zero bits fill the octets after `used` bits. There are fewer than eight of them, or the eight of one octet after no
-- bits (11.1).
abbrev pub is_filling : (used : ℕ) → Bits → Bool
is_filling used z = all_clear z && (if used == 0 then length z == 8 else nat_lt (length z) 8)

-- the bits of one encoding, filled to octets
abbrev pub filled_from : {X : Type 0} → (Bits → Reading X) → Bits → Reading X
filled_from f b =
    next (f b) (λ v z. if is_filling (length b - length z) z then read v [] else stop why.Padding z)

-- The reading of octets that other bits follow. The place of a fault in octets in fragments is at their end.
abbrev pub before_rest : {X : Type 0} → (whole : Bool) → Reading X → Bits → Reading X
before_rest whole (read v z) r = read v r
before_rest whole (refused e z) r = refused e (if whole then z ++ r else r)

-- The octets of an open type, of which there is at least one. With none, the place of the fault is where they would
-- be (11.2.1).
abbrev pub at_least_one : Octets → Bits → Outcome Octets
at_least_one [] r = stops why.Truncated r
at_least_one (x ∷ o) r = found (x ∷ o) r

-- the octets of an open type, after their number (11.2)
abbrev pub contents_from : Bits → Outcome Octets
contents_from b = onward (octets_from b) at_least_one

-- an open type: one encoding, filled to octets, after the number of these (11.2)
abbrev pub open_from : {X : Type 0} → (Bits → Reading X) → Bits → Reading X
open_from f b =
    next (plain (contents_from b))
    (λ o r. before_rest (nat_lt (length o) 16384) (filled_from f (octet_bits o)) r)

-- ---- components

-- a function that decodes a value of a type, given how many values may still begin
abbrev pub ReadsValue : Type 0
ReadsValue = TypeNumber → ℕ → Bits → Reading (Taken AbstractValue)

-- whether a component is present, which its bit says if it has one
abbrev pub presence_from : Bool → Bits → Reading Bool
presence_from true b = plain (bit_from b)
presence_from false b = read true b

-- whether each component is present (19.2)
abbrev pub presences_from : List (Member ℕ) → Bits → Reading (List Bool)
presences_from [] b = read [] b
presences_from (m ∷ ms) b =
    next (presence_from (has_bit (component m).presence) b)
    (λ c r. next (presences_from ms r) (λ cs z. read (c ∷ cs) z))

-- the component as a part of the value
abbrev pub part_of : Member ℕ → Part
part_of m = Component' (place_in m)

-- The value of a component must not be the same as its DEFAULT, unless additions were skipped within it (19.5).
abbrev pub may_be_present_so : List Resolved → Component → Taken AbstractValue → Bool
may_be_present_so s c w = not (w.skipped == 0 && is_default s c w.it)

abbrev pub taken_member : Component → Taken AbstractValue → Taken (Member AbstractValue)
taken_member c w = taken (standing c w.it) w.skipped w.left

-- A component that is present or absent. If it is absent, the levels of its DEFAULT are at most l.
abbrev pub member_from : List Resolved → ℕ → ReadsValue → Member ℕ → Bool → ℕ → Bits
    → Reading (Taken (Member AbstractValue))
member_from s l value m true n b =
    next (in_part (part_of m)
    (tested (may_be_present_so s (component m)) why.NotCanonical (value (component m).type n) b))
    (λ w r. read (taken_member (component m) w) r)
member_from s l value m false n b =
    if may_lack (is_within s l) (component m)
    then read (taken (missing (component m)) 0 n) b
    else in_part (part_of m) (stop why.TooDeep b)

abbrev pub joined : {X : Type 0} → Taken X → Taken (List X) → Taken (List X)
joined t ts = taken (t.it ∷ ts.it) (t.skipped + ts.skipped) ts.left

abbrev pub members_from : List Resolved → ℕ → ReadsValue → List (Member ℕ) → List Bool → ℕ → Bits
    → Reading (Taken (List (Member AbstractValue)))
members_from s l value [] cs n b = read (taken [] 0 n) b
members_from s l value (m ∷ ms) [] n b = read (taken [] 0 n) b
members_from s l value (m ∷ ms) (c ∷ cs) n b =
    next (member_from s l value m c n b)
    (λ t r. next (members_from s l value ms cs t.left r) (λ ts z. read (joined t ts) z))

-- ---- additions

-- a group: a bit for each member that may be absent, and then the present members, of which there is at least one
-- (19.9)
abbrev pub group_from : List Resolved → ℕ → ReadsValue → List (Member ℕ) → ℕ → Bits
    → Reading (Taken (List (Member AbstractValue)))
group_from s l value ms n b =
    next (tested any_set why.NotCanonical (presences_from ms) b) (λ cs r. members_from s l value ms cs n r)

abbrev pub by_itself : Component → Taken AbstractValue → Taken (Addition AbstractValue)
by_itself c w = taken (alone (standing c w.it)) w.skipped w.left

abbrev pub in_brackets : Taken (List (Member AbstractValue)) → Taken (Addition AbstractValue)
in_brackets t = taken (bracketed t.it) t.skipped t.left

abbrev pub addition_from : List Resolved → ℕ → ReadsValue → Addition ℕ → ℕ → Bits
    → Reading (Taken (Addition AbstractValue))
addition_from s l value (alone m) n b =
    next (in_part (part_of m) (open_from (value (component m).type n) b))
    (λ w r. read (by_itself (component m) w) r)
addition_from s l value (bracketed ms) n b =
    next (open_from (group_from s l value ms n) b) (λ t r. read (in_brackets t) r)

abbrev pub lacking : Member ℕ → Member AbstractValue
lacking m = missing (component m)

abbrev pub lacking_addition : Addition ℕ → Addition AbstractValue
lacking_addition (alone m) = alone (lacking m)
lacking_addition (bracketed ms) = bracketed (map lacking ms)

abbrev pub without : Addition ℕ → Taken (List (Addition AbstractValue)) → Taken (List (Addition AbstractValue))
without d ts = taken (lacking_addition d ∷ ts.it) ts.skipped ts.left

-- additions, where a bit for each says whether it is present
abbrev pub additions_from : List Resolved → ℕ → ReadsValue → List (Addition ℕ) → Bits → ℕ → Bits
    → Reading (Taken (List (Addition AbstractValue)))
additions_from s l value [] q n b = read (taken [] 0 n) b
additions_from s l value (d ∷ ds) [] n b = read (taken [] 0 n) b
additions_from s l value (d ∷ ds) (false ∷ q) n b =
    next (additions_from s l value ds q n b) (λ ts z. read (without d ts) z)
additions_from s l value (d ∷ ds) (true ∷ q) n b =
    next (addition_from s l value d n b)
    (λ t r. next (additions_from s l value ds q t.left r) (λ ts z. read (joined t ts) z))

-- additions that the type lacks, whose open types are skipped and counted
abbrev pub unknown_from : Bits → Bits → Reading ℕ
unknown_from [] b = read 0 b
unknown_from (false ∷ u) b = unknown_from u b
unknown_from (true ∷ u) b =
    next (plain (contents_from b)) (λ o r. next (unknown_from u r) (λ k z. read (suc k) z))

-- the number of a small form: one bit 0, and the six bits of the number (11.6.1)
abbrev pub count_from : Bits → Reading ℕ
count_from b =
    next (tested not why.TooManyAdditions (λ r. plain (bit_from r)) b) (λ c r. plain (field_from 6 r))

-- the number of additions, and a bit for each, of which at least one is set (19.7 and 19.8)
abbrev pub bitmap_from : Bits → Reading Bits
bitmap_from b =
    next (count_from b) (λ n r. tested any_set why.NotCanonical (λ z. plain (several_bits (suc n) z)) r)

-- the bits of the type's n additions, of which the last ones may be missing
abbrev pub own_bits : ℕ → Bits → Bits
own_bits zero m = []
own_bits (suc n) [] = false ∷ own_bits n []
own_bits (suc n) (c ∷ m) = c ∷ own_bits n m

abbrev pub and_unknown : Taken (List (Addition AbstractValue)) → ℕ → Taken (List (Addition AbstractValue))
and_unknown t k = taken t.it (t.skipped + k) t.left

abbrev pub extension_from : List Resolved → ℕ → ReadsValue → List (Addition ℕ) → ℕ → Bits
    → Reading (Taken (List (Addition AbstractValue)))
extension_from s l value ds n b =
    next (bitmap_from b) (λ m r.
    next (additions_from s l value ds (own_bits (length ds) m) n r) (λ t y.
    next (unknown_from (drop (length ds) m) y) (λ k z. read (and_unknown t k) z)))

-- the rest after the root: additions, if the first bit was 1
abbrev pub rest_from : List Resolved → ℕ → ReadsValue → Bool → List (Addition ℕ) → ℕ → Bits
    → Reading (Taken (List (Addition AbstractValue)))
rest_from s l value true ds n b = extension_from s l value ds n b
rest_from s l value false ds n b = read (taken (map lacking_addition ds) 0 n) b

-- ---- the whole value

-- the components of the root in the order of the encoding, and the additions
pub record Pieces : Type 0 where
  pub root : List (Member AbstractValue)
  pub more : List (Addition AbstractValue)

abbrev pub in_pieces : Taken (List (Member AbstractValue)) → Taken (List (Addition AbstractValue)) → Taken Pieces
in_pieces t ds = taken (record { root = t.it; more = ds.it }) (t.skipped + ds.skipped) ds.left

-- the bit of an extensible type, which is 1 if additions are present (19.1)
abbrev pub mark_from : Bool → Bits → Reading Bool
mark_from false b = read false b
mark_from true b = plain (bit_from b)

abbrev pub pieces_from : List Resolved → ℕ → ReadsValue → Bool → List (Member ℕ) → List (Addition ℕ) → ℕ → Bits
    → Reading (Taken Pieces)
pieces_from s l value e root ds n b =
    next (mark_from e b) (λ c r.
    next (presences_from root r) (λ cs x.
    next (members_from s l value root cs n x) (λ t y.
    next (rest_from s l value c ds t.left y) (λ rs z. read (in_pieces t rs) z))))

-- ---- components at their places

-- the row in which no component is present
abbrev pub no_row : List Component → Row
no_row [] = end
no_row (c ∷ cs) = absent (no_row cs)

-- the row with a value at a place
abbrev pub with_value : ℕ → AbstractValue → Row → Row
with_value i w end = end
with_value zero w (absent ws) = present w ws
with_value zero w (present v ws) = present w ws
with_value (suc i) w (absent ws) = absent (with_value i w ws)
with_value (suc i) w (present v ws) = present v (with_value i w ws)

-- decoded components, each at its place
abbrev pub with_members : List (Member ℕ) → List (Member AbstractValue) → Row → Row
with_members (m ∷ ms) (standing c w ∷ rs) ws = with_members ms rs (with_value (place_in m) w ws)
with_members (m ∷ ms) (missing c ∷ rs) ws = with_members ms rs ws
with_members ms rs ws = ws

abbrev pub members_in : {X : Type 0} → List (Addition X) → List (Member X)
members_in [] = []
members_in (alone m ∷ ds) = m ∷ members_in ds
members_in (bracketed ms ∷ ds) = ms ++ members_in ds

abbrev pub row_of : List Component → List (Member ℕ) → List (Addition ℕ) → Pieces → Row
row_of cs root ds p = with_members (root ++ members_in ds) (p.root ++ members_in p.more) (no_row cs)
