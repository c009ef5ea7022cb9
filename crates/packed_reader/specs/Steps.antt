-- The meaning of a packed routine for decoding bits, step by step (X.691, 11 to 30).
use Rattle.std.specs.Prelude.{ℕ, zero, suc, ◌==◌, Bool, true, false, if◌then◌else◌, List, [], ◌∷◌, map, take, drop}
use Rattle.std.specs.Prelude.{Option, Some, None, slice_get}
use Rattle.asn_base.specs.Abstract.{AbstractValue, fields}
use Rattle.asn_base.specs.Types.{Constraint, any_size, Kind, a_sequence_of, a_set_of, mandatory, TypeNumber, Component}
use Rattle.asn_base.specs.Types.{Resolved}
use Rattle.asn_base.specs.Schemas.{components}
use Rattle.packed_encodings.specs.Lengths.{Bits}
use Rattle.packed_encodings.specs.Orders.{Member, missing, standing, Addition, alone, bracketed}
use Rattle.packed_encodings.specs.Computed.{kind_at}
use Rattle.packed_code.specs.declared.step.PackedField.{PackedField}
use Rattle.packed_code.specs.declared.step.PackedStep.{PackedStep}
use Rattle.packed_code.specs.declared.step.PackedStep.TheVariants as steps
use Rattle.packed_code.specs.Routines.{routine_at}
use Rattle.packed_code.specs.Meaning.{next_fields}
use Rattle.decode_faults.specs.declared.refusal.Refusal.{Refusal}
use Rattle.decode_faults.specs.declared.refusal.Refusal.TheVariants as why
use Rattle.packed_readings.specs.Outcome.{Outcome, onward, Judged, good, bad, judging, bit_from, field_from, small_from}
use Rattle.packed_readings.specs.Leaves.{leaf_within}
use Rattle.packed_reader.specs.Readings.{Reading, read, stop, next, plain, Taken, taken}
use Rattle.packed_reader.specs.Structures.{ReadsValue, pieces_from, row_of}
use Rattle.packed_reader.specs.Lists.{list_from}
use Rattle.packed_reader.specs.Values.{Chosen, in_root, added, chosen_value, elements_value, leaf_taken}

-- ---- components

-- a component in place of one that isn't there
abbrev pub no_component : Component
no_component = record { name = []; type = 0; presence = mandatory }

-- the component of a field, with its place
abbrev pub member_at : List Component → PackedField → Member ℕ
member_at cs f = elim (slice_get cs f.place) [ None ↦ missing no_component | Some c ↦ standing c f.place ]

-- the components of the next n steps
abbrev pub next_members : List Component → ℕ → List PackedStep → List (Member ℕ)
next_members cs n ss = map (member_at cs) (next_fields n ss)

-- the additions of steps, each by itself or in a group
abbrev pub additions_in : List Component → List PackedStep → List (Addition ℕ)
additions_in cs [] = []
additions_in cs (steps.Added f ∷ ss) = alone (member_at cs f) ∷ additions_in cs ss
additions_in cs (steps.Group n ∷ ss) = bracketed (next_members cs n ss) ∷ additions_in cs ss
additions_in cs (st ∷ ss) = additions_in cs ss

-- the value of a SEQUENCE or SET, of which n components are in the root
abbrev pub structure_by : List Resolved → ℕ → ReadsValue → TypeNumber → (extensible : Bool) → ℕ → List PackedStep → ℕ
    → Bits → Reading (Taken AbstractValue)
structure_by s l value t e k ss n b =
    let cs = components (kind_at s t) in
    let root = next_members cs k ss in
    let more = additions_in cs (drop k ss) in
    next (pieces_from s l value e root more n b)
    (λ p r. read (taken (fields (row_of cs root more p.it)) p.skipped p.left) r)

-- ---- alternatives

-- the alternative of the root with this rank, and its number
abbrev pub ranked_call : ℕ → List PackedStep → ℕ → Option Chosen
ranked_call r [] i = None
ranked_call r (steps.Root c ∷ ss) i = if c.rank == r then Some (in_root i c.ty.index) else ranked_call r ss (suc i)
ranked_call r (st ∷ ss) i = ranked_call r ss (suc i)

-- the addition with this number
abbrev pub added_call : ℕ → List PackedStep → ℕ → Option Chosen
added_call j [] i = None
added_call j (steps.More k u ∷ ss) i = if k == j then Some (added i u.index) else added_call j ss (suc i)
added_call j (st ∷ ss) i = added_call j ss (suc i)

abbrev pub or_refused : Refusal → Option Chosen → Judged Chosen
or_refused e None = bad e
or_refused e (Some c) = good c

abbrev pub root_call : ℕ → List PackedStep → Bits → Outcome Chosen
root_call width ss = judging (λ r. or_refused why.Outside (ranked_call r ss 0)) (field_from width)

-- the alternative that the bits select among these calls, of which the first is one of the root (X.691, 23)
abbrev pub call_from : List PackedStep → Bits → Outcome Chosen
call_from (steps.Root c ∷ ss) b =
    if c.extensible
    then onward (bit_from b) (λ x r. if x
    then judging (λ j. or_refused why.UnknownAlternative (added_call j (steps.Root c ∷ ss) 0))
    (small_from why.UnknownAlternative) r
    else root_call c.width (steps.Root c ∷ ss) r)
    else root_call c.width (steps.Root c ∷ ss) b
call_from ss b = Outcome.stops why.Outside b

-- ---- routines

abbrev pub size_in : Kind → Constraint
size_in (a_sequence_of c u) = c
size_in (a_set_of c u) = c
size_in k = any_size

-- a value of type t by these steps
abbrev pub steps_from : List Resolved → ℕ → ReadsValue → TypeNumber → List PackedStep → ℕ → Bits
    → Reading (Taken AbstractValue)
steps_from s l value t (steps.ExtensionBit m ∷ (steps.Map k ∷ ss)) n b = structure_by s l value t true k ss n b
steps_from s l value t (steps.Map k ∷ ss) n b = structure_by s l value t false k ss n b
steps_from s l value t (steps.Each u ∷ ss) n b =
    next (list_from (value u.index) false (size_in (kind_at s t)) n b) (λ w r. read (elements_value w) r)
steps_from s l value t (steps.EachSorted u ∷ ss) n b =
    next (list_from (value u.index) true (size_in (kind_at s t)) n b) (λ w r. read (elements_value w) r)
steps_from s l value t (steps.Pick k ∷ ss) n b =
    next (plain (call_from (take k ss) b)) (λ c r. chosen_value value c n r)
steps_from s l value t [] n b = stop why.Outside b
steps_from s l value t (st ∷ ss) n b =
    next (plain (leaf_within n (kind_at s t) b)) (λ v r. read (leaf_taken n v) r)

-- a value of type t by the routines of all types
abbrev pub value_by : List Resolved → ℕ → TypeNumber → ℕ → Bits → Reading (Taken AbstractValue)
value_by s zero t n b = stop why.TooDeep b
value_by s (suc l) t zero b = stop why.NodesLimit b
value_by s (suc l) t (suc n) b = steps_from s l (value_by s l) t (routine_at s t) n b
