-- Values of all types and messages, decoded from the front of bits (X.691, 11 to 30).
use Rattle.std.specs.Prelude.{◌≡◌, ℕ, zero, suc, ◌+◌, ◌-◌, ◌==◌, nat_lt, Bool, true, false}
use Rattle.std.specs.Prelude.{if◌then◌else◌, List, [], ◌∷◌, length, Option, Some, None}
use Rattle.std.specs.Prelude.{slice_get}
use Rattle.bits.specs.Words.{octet_bits}
use Rattle.asn_base.specs.Abstract.{AbstractValue, fields, list, alternative}
use Rattle.asn_base.specs.Types.{Alternative, Kind, a_sequence, a_set, a_sequence_of, a_set_of, a_choice, TypeNumber}
use Rattle.asn_base.specs.Types.{Component, Resolved}
use Rattle.asn_base.specs.Typed.{ValueIn}
use Rattle.encodings.specs.Header.{Octets}
use Rattle.packed_encodings.specs.Lengths.{Bits}
use Rattle.packed_encodings.specs.Leaves.{place_width}
use Rattle.packed_encodings.specs.Orders.{canonical_place, Member, root_members, past_marker, canonical, additions}
use Rattle.packed_encodings.specs.Packing.{lenient, EncodesPer}
use Rattle.packed_encodings.specs.Computed.{type_of}
use Rattle.packed_encodings.specs.Weights.{characters, weight}
use Rattle.packed_code.specs.Routines.{placed_from}
use Rattle.decode_faults.specs.declared.refusal.Refusal.TheVariants as why
use Rattle.packed_readings.specs.Outcome.{Outcome, onward, Judged, good, bad, judging, bit_from, field_from, small_from}
use Rattle.packed_readings.specs.Leaves.{leaf_within}
use Rattle.packed_reader.specs.declared.part.Part.TheVariants.{Alternative as Alternative'}
use Rattle.packed_reader.specs.Readings.{Fault, Reading, read, refused, stop, next, in_part, plain, Taken, taken}
use Rattle.packed_reader.specs.Structures.{ReadsValue, open_from, filled_from, pieces_from, row_of}
use Rattle.packed_reader.specs.Lists.{Element', row_of_elements, list_from}

-- ---- alternatives

-- the number of the first alternative whose rank in the canonical order of tags is r
abbrev pub ranked : List Resolved → (all : List Alternative) → ℕ → List Alternative → ℕ → Option ℕ
ranked s all r [] i = None
ranked s all r (a ∷ as') i = if canonical_place s all a.type == r then Some i else ranked s all r as' (suc i)

-- an alternative of the root, or one after the marker, with its number among all and its type
pub data Chosen : Type 0 where
  in_root : ℕ → TypeNumber → Chosen
  added : ℕ → TypeNumber → Chosen

abbrev pub root_choice : List Resolved → List Alternative → ℕ → Judged Chosen
root_choice s root r = elim (ranked s root r root 0) [
  | None ↦ bad why.Outside
  | Some i ↦ good (in_root i (type_of (slice_get root i)))
]

abbrev pub added_choice : (root more : List Alternative) → ℕ → Judged Chosen
added_choice root more j = elim (slice_get more j) [
  | None ↦ bad why.UnknownAlternative
  | Some a ↦ good (added (length root + j) a.type)
]

abbrev pub root_chosen : List Resolved → List Alternative → Bits → Outcome Chosen
root_chosen s root = judging (root_choice s root) (field_from (place_width (length root)))  -- 23.4 to 23.7

abbrev pub chosen_from : List Resolved → (root : List Alternative) → Bool → (more : List Alternative) → Bits
    → Outcome Chosen
chosen_from s root e more b =
    if e
    then onward (bit_from b) (λ x r. if x
    then judging (added_choice root more) (small_from why.UnknownAlternative) r  -- 23.8
    else root_chosen s root r)
    else root_chosen s root b

abbrev pub alternative_of : ℕ → Taken AbstractValue → Taken AbstractValue
alternative_of i w = taken (alternative i w.it) w.skipped w.left

abbrev pub chosen_value : ReadsValue → Chosen → ℕ → Bits → Reading (Taken AbstractValue)
chosen_value value (in_root i t) n b =
    next (in_part (Alternative' i) (value t n b)) (λ w r. read (alternative_of i w) r)
chosen_value value (added i t) n b =
    next (in_part (Alternative' i) (open_from (value t n) b)) (λ w r. read (alternative_of i w) r)

-- ---- all kinds

abbrev pub structure_from : List Resolved → ℕ → ReadsValue → Bool → List Component → List (Member ℕ) → ℕ → Bits
    → Reading (Taken AbstractValue)
structure_from s l value e cs root n b =
    let more = additions (past_marker (placed_from 0 cs)) in
    next (pieces_from s l value e root more n b)
    (λ p r. read (taken (fields (row_of cs root more p.it)) p.skipped p.left) r)

abbrev pub elements_value : Taken (List Element') → Taken AbstractValue
elements_value t = taken (list (row_of_elements t.it)) t.skipped t.left

-- a value that holds no others; each octet of a character string counts like a value that begins
abbrev pub leaf_taken : ℕ → AbstractValue → Taken AbstractValue
leaf_taken n v = taken v 0 (n - characters v)

-- a value of this kind, in which the members have at most l levels
abbrev pub kind_from : List Resolved → ℕ → ReadsValue → Kind → ℕ → Bits → Reading (Taken AbstractValue)
kind_from s l value (a_sequence e cs) n b = structure_from s l value e cs (root_members (placed_from 0 cs)) n b
kind_from s l value (a_set e cs) n b = structure_from s l value e cs (canonical s (root_members (placed_from 0 cs))) n b
kind_from s l value (a_sequence_of c u) n b =
    next (list_from (value u) false c n b) (λ t r. read (elements_value t) r)
kind_from s l value (a_set_of c u) n b =
    next (list_from (value u) true c n b) (λ t r. read (elements_value t) r)
kind_from s l value (a_choice root e more) n b =
    next (plain (chosen_from s root e more b)) (λ c r. chosen_value value c n r)
kind_from s l value k n b = next (plain (leaf_within n k b)) (λ v r. read (leaf_taken n v) r)

-- A value of type t with at most l levels, if n values may still begin, this one included. Each octet of a character
-- string counts like a value (own rule).
abbrev pub value_from : List Resolved → ℕ → TypeNumber → ℕ → Bits → Reading (Taken AbstractValue)
value_from s zero t n b = stop why.TooDeep b
value_from s (suc l) t zero b = stop why.NodesLimit b
value_from s (suc l) t (suc n) b =
    elim (slice_get s t) [ None ↦ stop why.Outside b | Some r ↦ kind_from s l (value_from s l) r.kind n b ]

-- The bits are those of value w of type t in the form that is read, with at most l levels. If n values may still begin
-- before it, w says how many may begin after it.
pub record IsValueRead (s : List Resolved) (l t n : ℕ) (w : Taken AbstractValue) (x : Bits) : Type 0 where
  pub says_it : EncodesPer s lenient t w.it w.skipped x
  pub value : ValueIn s l t w.it
  pub counted : n ≡ weight w.it + w.left

-- ---- messages

-- The decoded value, and how many additions were skipped. Or there is a fault: there are more than 16,777,216 octets,
-- or the bit at this place, from 0, has a fault.
pub data Answer : Type 0 where
  answers : AbstractValue → ℕ → Answer
  too_long : Answer
  faulty : Fault → (bit : ℕ) → Answer

abbrev pub answer_of : (all : Bits) → Reading (Taken AbstractValue) → Answer
answer_of b (read w r) = answers w.it w.skipped
answer_of b (refused e r) = faulty e (length b - length r)

-- a message: one value, filled to octets, of which there is at least one
abbrev pub message_from : List Resolved → TypeNumber → Octets → Answer
message_from s t [] = faulty (record { why = why.Truncated; path = [] }) 0
message_from s t (x ∷ o) =
    if nat_lt 16777216 (length (x ∷ o))
    then too_long
    else answer_of (octet_bits (x ∷ o)) (filled_from (value_from s 64 t 16777216) (octet_bits (x ∷ o)))
