-- What the reader's code computes, in the order in which it does: the state goes from part to part, and each value is
-- put at its place at once. `k` counts additions that were skipped so far, and `n` values that may still begin.
use Rattle.std.specs.Prelude.{ℕ, zero, suc, ◌+◌, ◌-◌, ◌*◌, ◌==◌, Bool, true, false, not, ◌&&◌, ◌||◌}
use Rattle.std.specs.Prelude.{if◌then◌else◌, List, [], ◌∷◌, ◌++◌, length}
use Rattle.std.specs.Prelude.{drop, take, Option}
use Rattle.asn_base.specs.Abstract.{AbstractValue, fields, list, Row, end, present}
use Rattle.asn_base.specs.Types.{Component, Constraint, Kind, Resolved, TypeNumber}
use Rattle.asn_base.specs.Schemas.{components}
use Rattle.packed_encodings.specs.Lengths.{Bits}
use Rattle.packed_encodings.specs.Orders.{component}
use Rattle.packed_encodings.specs.Computed.{is_default, kind_at}
use Rattle.packed_code.specs.declared.step.PackedField.{PackedField}
use Rattle.packed_code.specs.declared.step.PackedStep.{PackedStep}
use Rattle.packed_code.specs.declared.step.PackedStep.TheVariants as steps
use Rattle.packed_code.specs.Meaning.{next_fields}
use Rattle.decode_faults.specs.declared.refusal.Refusal.{Refusal}
use Rattle.decode_faults.specs.declared.refusal.Refusal.TheVariants as why
use Rattle.packed_readings.specs.declared.count.Count.{Count}
use Rattle.packed_readings.specs.declared.count.Count.TheVariants.{Last as last, Part as part}
use Rattle.packed_readings.specs.declared.size.Sizing.{Sizing}
use Rattle.packed_readings.specs.declared.size.Sizing.TheVariants.{AtOnce as at_once, Counted as counted}
use Rattle.packed_readings.specs.Counts.{count_from, total, size_from, size_fault}
use Rattle.packed_readings.specs.Outcome.{judging}
use Rattle.packed_encodings.specs.Weights.{characters}
use Rattle.packed_readings.specs.Leaves.{leaf_within}
use Rattle.packed_reader.specs.declared.part.Part.TheVariants.{Component as Component', Element}
use Rattle.packed_reader.specs.declared.sent.Sent.{Sent}
use Rattle.packed_reader.specs.Levels.{is_within, may_lack}
use Rattle.packed_reader.specs.Readings.{Reading, read, refused, stop, next, in_part}
use Rattle.packed_reader.specs.Readings.{plain, tested, with_bits, Taken, taken}
use Rattle.packed_reader.specs.Structures.{presence_from, mark_from, bitmap_from, contents_from, unknown_from}
use Rattle.packed_reader.specs.Structures.{open_from, no_row, with_value}
use Rattle.packed_reader.specs.Lists.{in_order}
use Rattle.packed_reader.specs.Steps.{call_from, member_at, size_in, value_by}
use Rattle.packed_reader.specs.Values.{Chosen, in_root, added, alternative_of}
use Rattle.packed_reader.specs.declared.part.Part.TheVariants.{Alternative as Alternative'}

-- what is read after k additions were skipped
abbrev pub past : {X : Type 0} → ℕ → Reading (Taken X) → Reading (Taken X)
past k (read w r) = read (taken w.it (k + w.skipped) w.left) r
past k (refused e r) = refused e r

abbrev pub Runs : Type 0 → Type 0
Runs X = (k n : ℕ) → Bits → Reading (Taken X)

abbrev pub RunsValue : Type 0
RunsValue = TypeNumber → Runs AbstractValue

-- a value of type t
abbrev pub run_value : List Resolved → ℕ → RunsValue
run_value s l t k n b = past k (value_by s l t n b)

-- ---- components

-- the component of a field, as it is in the type
abbrev pub component_of_field : List Component → PackedField → Component
component_of_field cs f = component (member_at cs f)

abbrev pub sent : PackedField → Bool → Sent
sent f c = record { field = f; present = c }

-- whether each of these fields is present, after others
abbrev pub run_presences : List Sent → List PackedField → Bits → Reading (List Sent)
run_presences xs [] b = read xs b
run_presences xs (f ∷ fs) b = next (presence_from f.with_bit b) (λ c r. run_presences (xs ++ sent f c ∷ []) fs r)

abbrev pub any_sent : List Sent → Bool
any_sent [] = false
any_sent (x ∷ xs) = x.present || any_sent xs

-- a value that is not the component's DEFAULT, unless additions were skipped within it
abbrev pub differs : List Resolved → Component → ℕ → Taken AbstractValue → Bool
differs s c k w = not (w.skipped == k && is_default s c w.it)

-- the row with a value at the place of a field
abbrev pub put : PackedField → Row → Taken AbstractValue → Taken Row
put f ws w = taken (with_value f.place w.it ws) w.skipped w.left

-- the value of a component that is present
abbrev pub run_present : List Resolved → RunsValue → List Component → PackedField → Row → Runs Row
run_present s value cs f ws k n b =
    next (in_part (Component' f.place)
    (tested (differs s (component_of_field cs f) k) why.NotCanonical (value f.ty.index k n) b))
    (λ w r. read (put f ws w) r)

-- a component that is absent: its DEFAULT has at most l levels
abbrev pub run_absent : List Resolved → ℕ → List Component → PackedField → Row → Runs Row
run_absent s l cs f ws k n b =
    if may_lack (is_within s l) (component_of_field cs f)
    then read (taken ws k n) b
    else in_part (Component' f.place) (stop why.TooDeep b)

abbrev pub run_member : List Resolved → ℕ → RunsValue → List Component → Sent → Row → Runs Row
run_member s l value cs x ws k n b =
    if x.present then run_present s value cs x.field ws k n b else run_absent s l cs x.field ws k n b

abbrev pub run_members : List Resolved → ℕ → RunsValue → List Component → List Sent → Row → Runs Row
run_members s l value cs [] ws k n b = read (taken ws k n) b
run_members s l value cs (x ∷ xs) ws k n b =
    next (run_member s l value cs x ws k n b) (λ w r. run_members s l value cs xs w.it w.skipped w.left r)

-- ---- additions

-- an addition by itself
abbrev pub run_added : RunsValue → PackedField → Row → Runs Row
run_added value f ws k n b =
    next (in_part (Component' f.place) (open_from (value f.ty.index k n) b)) (λ w r. read (put f ws w) r)

-- the members of a group
abbrev pub run_group_inside : List Resolved → ℕ → RunsValue → List Component → List PackedField → Row → Runs Row
run_group_inside s l value cs fs ws k n b =
    next (tested any_sent why.NotCanonical (run_presences [] fs) b) (λ xs r. run_members s l value cs xs ws k n r)

abbrev pub run_group : List Resolved → ℕ → RunsValue → List Component → List PackedField → Row → Runs Row
run_group s l value cs fs ws k n b = open_from (run_group_inside s l value cs fs ws k n) b

-- the additions that the type lacks, after k that were skipped
abbrev pub run_unknown : ℕ → Bits → Bits → Reading ℕ
run_unknown k [] b = read k b
run_unknown k (false ∷ q) b = run_unknown k q b
run_unknown k (true ∷ q) b = next (plain (contents_from b)) (λ o r. run_unknown (suc k) q r)

-- the bit of the next addition, 0 after the last one
abbrev pub first_bit : Bits → Bool
first_bit [] = false
first_bit (c ∷ q) = c

abbrev pub other_bits : Bits → Bits
other_bits [] = []
other_bits (c ∷ q) = q

-- the additions of these steps, of which the bits q say which are present, and then those that the type lacks
abbrev pub run_additions : List Resolved → ℕ → RunsValue → List Component → List PackedStep → Bits → Row → Runs Row
run_additions s l value cs [] q ws k n b = next (unknown_from q b) (λ j r. read (taken ws (k + j) n) r)
run_additions s l value cs (steps.Added f ∷ ss) q ws k n b =
    if first_bit q
    then next (run_added value f ws k n b)
    (λ w r. run_additions s l value cs ss (other_bits q) w.it w.skipped w.left r)
    else run_additions s l value cs ss (other_bits q) ws k n b
run_additions s l value cs (steps.Group m ∷ ss) q ws k n b =
    if first_bit q
    then next (run_group s l value cs (next_fields m ss) ws k n b)
    (λ w r. run_additions s l value cs ss (other_bits q) w.it w.skipped w.left r)
    else run_additions s l value cs ss (other_bits q) ws k n b
run_additions s l value cs (st ∷ ss) q ws k n b = run_additions s l value cs ss q ws k n b

-- the addition of the first step, if it is one
abbrev pub run_first : List Resolved → ℕ → RunsValue → List Component → List PackedStep → Row → Runs Row
run_first s l value cs (steps.Added f ∷ ss) ws k n b = run_added value f ws k n b
run_first s l value cs (steps.Group m ∷ ss) ws k n b = run_group s l value cs (next_fields m ss) ws k n b
run_first s l value cs ss ws k n b = read (taken ws k n) b

abbrev pub is_addition : PackedStep → Bool
is_addition (steps.Added f) = true
is_addition (steps.Group m) = true
is_addition st = false

-- what follows the root
abbrev pub run_rest : List Resolved → ℕ → RunsValue → List Component → Bool → List PackedStep → Row → Runs Row
run_rest s l value cs true ss ws k n b = next (bitmap_from b) (λ q r. run_additions s l value cs ss q ws k n r)
run_rest s l value cs false ss ws k n b = read (taken ws k n) b

abbrev pub as_fields : Taken Row → Taken AbstractValue
as_fields w = taken (fields w.it) w.skipped w.left

-- the components of a SEQUENCE or SET, of which m are in the root
abbrev pub run_structure : List Resolved → ℕ → RunsValue → List Component → (extensible : Bool) → ℕ → List PackedStep
    → Runs Row
run_structure s l value cs e m ss k n b =
    next (mark_from e b) (λ c r.
    next (run_presences [] (next_fields m ss) r) (λ xs x.
    next (run_members s l value cs xs (no_row cs) k n x) (λ w y.
    run_rest s l value cs c (drop m ss) w.it w.skipped w.left y)))

-- ---- elements

-- elements that were read, and the bits of the last one
pub record Elements : Type 0 where
  pub values : List AbstractValue
  pub before : Bits

abbrev pub and_one : Elements → Taken (AbstractValue × Bits) → Taken Elements
and_one es p = taken (record { values = es.values ++ p.it.0 ∷ []; before = p.it.1 }) p.skipped p.left

abbrev pub RunsElement : Type 0
RunsElement = Runs AbstractValue

abbrev pub with_its_bits : Taken AbstractValue × Bits → Taken (AbstractValue × Bits)
with_its_bits p = taken (p.0.it, p.1) p.0.skipped p.0.left

-- one more element
abbrev pub run_element : RunsElement → Bool → Elements → Runs Elements
run_element value sorted es k n b =
    next (in_part (Element (length es.values))
    (tested (in_order sorted es.before) why.NotCanonical (with_bits (value k n)) b))
    (λ p r. read (and_one es (with_its_bits p)) r)

abbrev pub run_elements : RunsElement → Bool → ℕ → Elements → Runs Elements
run_elements value sorted zero es k n b = read (taken es k n) b
run_elements value sorted (suc m) es k n b =
    next (run_element value sorted es k n b) (λ w r. run_elements value sorted m w.it w.skipped w.left r)

-- the elements of one number; those of further numbers follow a part
abbrev pub run_part : RunsElement → Bool → Elements → (k n : ℕ) → Count
    → (Bool → Elements → Runs Elements) → Bits → Reading (Taken Elements)
run_part value sorted es k n (last m) others b = run_elements value sorted m es k n b
run_part value sorted es k n (part m) others b =
    next (run_elements value sorted (16384 * m) es k n b) (λ w r. others (m == 4) w.it w.skipped w.left r)

abbrev pub run_parts : RunsElement → Bool → (ℕ → Option Refusal) → ℕ → Bool → Elements → Runs Elements
run_parts value sorted test zero full es k n b = stop why.NodesLimit b
run_parts value sorted test (suc fuel) full es k n b =
    next (plain (judging (total test (length es.values)) (count_from full) b)) (λ c r.
    run_part value sorted es k n c (run_parts value sorted test fuel) r)

abbrev pub no_elements : Elements
no_elements = record { values = []; before = [] }

abbrev pub run_sized : RunsElement → Bool → Constraint → ℕ → ℕ → Sizing → Bits → Reading (Taken Elements)
run_sized value sorted c k n (at_once m) b = run_elements value sorted m no_elements k n b
run_sized value sorted c k n (counted outside) b =
    run_parts value sorted (size_fault c outside) (suc n) true no_elements k n b

abbrev pub run_list : RunsElement → Bool → Constraint → Runs Elements
run_list value sorted c k n b = next (plain (size_from c b)) (λ z r. run_sized value sorted c k n z r)

abbrev pub row_of_values : List AbstractValue → Row
row_of_values [] = end
row_of_values (v ∷ vs) = present v (row_of_values vs)

abbrev pub as_list : Taken Elements → Taken AbstractValue
as_list w = taken (list (row_of_values w.it.values)) w.skipped w.left

-- ---- alternatives

abbrev pub run_chosen : RunsValue → Chosen → Runs AbstractValue
run_chosen value (in_root i t) k n b =
    next (in_part (Alternative' i) (value t k n b)) (λ w r. read (alternative_of i w) r)
run_chosen value (added i t) k n b =
    next (in_part (Alternative' i) (open_from (value t k n) b)) (λ w r. read (alternative_of i w) r)

-- ---- routines

abbrev pub run_fields : List Resolved → ℕ → RunsValue → TypeNumber → (extensible : Bool) → ℕ → List PackedStep
    → Runs AbstractValue
run_fields s l value t e m ss k n b =
    next (run_structure s l value (components (kind_at s t)) e m ss k n b) (λ w r. read (as_fields w) r)

abbrev pub run_each : List Resolved → RunsValue → TypeNumber → (sorted : Bool) → TypeNumber → Runs AbstractValue
run_each s value t sorted u k n b =
    next (run_list (value u) sorted (size_in (kind_at s t)) k n b) (λ w r. read (as_list w) r)

-- a value that holds no others
abbrev pub run_leaf : Kind → Runs AbstractValue
run_leaf c k n b = next (plain (leaf_within n c b)) (λ v r. read (taken v k (n - characters v)) r)

abbrev pub run_steps : List Resolved → ℕ → RunsValue → TypeNumber → List PackedStep → Runs AbstractValue
run_steps s l value t (steps.ExtensionBit m ∷ (steps.Map i ∷ ss)) k n b = run_fields s l value t true i ss k n b
run_steps s l value t (steps.Map i ∷ ss) k n b = run_fields s l value t false i ss k n b
run_steps s l value t (steps.Each u ∷ ss) k n b = run_each s value t false u.index k n b
run_steps s l value t (steps.EachSorted u ∷ ss) k n b = run_each s value t true u.index k n b
run_steps s l value t (steps.Pick i ∷ ss) k n b =
    next (plain (call_from (take i ss) b)) (λ c r. run_chosen value c k n r)
run_steps s l value t [] k n b = stop why.Outside b
run_steps s l value t (st ∷ ss) k n b = run_leaf (kind_at s t) k n b
