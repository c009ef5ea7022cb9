-- What calls add to lists.
use Rattle.std.specs.Prelude.{◌≡◌, ℕ, suc, ◌<◌, ◌≤◌, List, ◌++◌, length, replicate, Option, None, Bool, false, ℤ, pos, ◌+ℤ◌}
use Rattle.asn_base.specs.Abstract.{AbstractValue}
use Rattle.asn_base.specs.Seen.{constraint_of}
use Rattle.asn_base.specs.Types.{Constraint}
use Rattle.encodings.specs.Header.{Octets}
use Rattle.bits.specs.Words.{octet_bits}
use Rattle.packed_encodings.specs.Lengths.{Bits}
use Rattle.packed_readings.specs.declared.bit_string.NextBits.{NextBits}
use Rattle.packed_readings.specs.declared.bit_string.NextBits.TheVariants as next_bits
use Rattle.packed_readings.specs.declared.integer.Stated.{Stated}
use Rattle.packed_readings.specs.declared.integer.Stated.TheVariants as statements
use Rattle.packed_readings.specs.declared.strings.Form.{Form}
use Rattle.packed_readings.specs.declared.strings.Form.TheVariants as forms
use Rattle.packed_readings.specs.declared.strings.Next.{Next}
use Rattle.packed_readings.specs.declared.strings.Next.TheVariants as nexts
use Rattle.packed_readings.specs.declared.strings.Total.{Total}
use Rattle.packed_readings.specs.declared.strings.Total.TheVariants as totals
use Rattle.decode_faults.specs.declared.refusal.Refusal.{Refusal}
use Rattle.packed_readings.specs.Outcome.{Outcome, found, each_from, Judged, and_then}
use Rattle.packed_readings.specs.Counts.{Count, last, part, Several, several_octets, several_bits, any_total, size_fault, parts_from}
use Rattle.packed_readings.specs.Leaves.{character_from, root_number, other_number, signed_number, unsigned_number}
use Rattle.packed_readings.specs.Leaves.{arcs_after, object_identifier, relative_identifier}

-- the values that are found were added at the end of the list
pub record Gained {X : Type 0} (o : Outcome (List X)) (old new : List X) (rest : Bits) : Type 0 where
  pub values : List X
  pub is : o ≡ found values rest
  pub joined : new ≡ old ++ values

-- items of this form
abbrev pub several_of : Form → Several ℕ
several_of forms.Octets = several_octets
several_of (forms.Characters a) = each_from (character_from a.now)

-- the test that the number of all items must pass
abbrev pub test_of : Total → ℕ → Option Refusal
test_of totals.Any = any_total
test_of (totals.Sized c o) = size_fault (constraint_of c.now) o

-- the limit on how many items can come with one number
abbrev pub IsFew : Count → Type 0
IsFew (last n) = n < 16384
IsFew (part m) = m ≤ 4

-- the list after the items of one number were read, which were added to those before
abbrev pub IsStep : {X : Type 0} → (ℕ → Option Refusal) → Several X → Bool → (before after : List X) → Next →
    (b r : Bits)
    → Type 0
IsStep test items full before after nexts.Nothing b r =
    ((k : ℕ) → parts_from (suc k) test items full before b ≡ found after r) × (length r < length b)
IsStep test items full before after (nexts.More f) b r =
    ((k : ℕ) → parts_from (suc k) test items full before b ≡ parts_from k test items f after r) × (length r < length b)

-- ---- numbers

-- the number that octets encode as one of the root; then as one outside it, and by its distance above the least one
abbrev pub root_judge : Constraint → Octets → Judged AbstractValue
root_judge c o = and_then (signed_number o) (root_number c)

abbrev pub outside_judge : Constraint → Octets → Judged AbstractValue
outside_judge c o = and_then (signed_number o) (other_number c)

abbrev pub above_judge : Constraint → ℤ → Octets → Judged AbstractValue
above_judge c l o = and_then (unsigned_number o) (λ n. root_number c (l +ℤ pos n))

abbrev pub judge_stated : Stated → Constraint → Octets → Judged AbstractValue
judge_stated (statements.Above l) c = above_judge c l
judge_stated statements.Root c = root_judge c
judge_stated statements.Outside c = outside_judge c

-- octets of an OBJECT IDENTIFIER, and of a RELATIVE-OID
abbrev pub judge_oid : Octets → Judged AbstractValue
judge_oid o = object_identifier (arcs_after None o)

abbrev pub judge_relative : Octets → Judged AbstractValue
judge_relative o = relative_identifier (arcs_after None o)

-- ---- bits in octets

-- the bits that are found were added to whole octets, and the last `unused` bits of the last octet are zeros
pub record GainedBits (o : Outcome Bits) (old new : List ℕ) (unused : ℕ) (rest : Bits) : Type 0 where
  pub values : Bits
  pub is : o ≡ found values rest
  pub few : unused < 8
  pub joined : octet_bits new ≡ octet_bits old ++ (values ++ replicate unused false)

-- the octets after the bits of one number were read, which were added to those of whole octets
abbrev pub IsBitStep : (ℕ → Option Refusal) → Bool → (before after : List ℕ) → NextBits → (b r : Bits) → Type 0
IsBitStep test full before after (next_bits.Nothing u) b r =
    (v : Bits)
    × ((k : ℕ) → parts_from (suc k) test several_bits full (octet_bits before) b ≡ found (octet_bits before ++ v) r)
    × (u < 8)
    × (octet_bits after ≡ octet_bits before ++ (v ++ replicate u false))
    × (length r < length b)
IsBitStep test full before after (next_bits.More f) b r =
    ((k : ℕ) → parts_from (suc k) test several_bits full (octet_bits before) b
    ≡ parts_from k test several_bits f (octet_bits after) r)
    × (length r < length b)
