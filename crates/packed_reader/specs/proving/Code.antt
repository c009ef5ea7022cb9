-- What the functions of the reader's code answer.
use Rattle.std.specs.Prelude.{◌≡◌, ℕ, suc, ◌+◌, ◌<◌, ◌≤◌, ◌^◌, List, [], ◌∷◌, length, map, option_map}
use Rattle.std.specs.Prelude.{Option, Some, slice_get}
use Rattle.asn_base.specs.Abstract.{abstract, Row, row_of_options}
use Rattle.asn_base.specs.declared.value.Value.{Value}
use Rattle.asn_base.specs.Schemas.{components}
use Rattle.asn_base.specs.Types.{Component, Resolved, TypeNumber}
use Rattle.packed_encodings.specs.Computed.{kind_at}
use Rattle.packed_encodings.specs.Lengths.{Bits}
use Rattle.packed_readings.specs.declared.refusal.PackedFault.{PackedFault}
use Rattle.packed_readings.specs.declared.refusal.PackedFault.TheVariants as faults
use Rattle.decode_faults.specs.declared.refusal.Refusal.{Refusal}
use Rattle.packed_readings.specs.Outcome.{Outcome, stops}
use Rattle.packed_reader.specs.declared.fault.PerFault.{PerFault}
use Rattle.packed_reader.specs.declared.fault.PerFault.TheVariants as per
use Rattle.packed_reader.specs.declared.part.Part.{Part}
use Rattle.packed_reader.specs.declared.stop.Stop.{Stop}
use Rattle.packed_reader.specs.declared.stop.Stop.TheVariants.{Memory, Refused}
use Rattle.packed_reader.specs.declared.reader.Progress.{Progress}
use Rattle.packed_reader.specs.Readings.{Reading, read, refused, Taken, taken}
use Rattle.packed_reader.specs.declared.list.Gathered.{Gathered}
use Rattle.packed_reader.specs.declared.list.Next.{Next}
use Rattle.packed_reader.specs.declared.list.Next.TheVariants as nexts
use Rattle.packed_reader.specs.declared.elements.Fragment.{Fragment}
use Rattle.packed_reader.specs.declared.sent.Sent.{Sent}
use Rattle.packed_reader.specs.proving.Running.{Elements, RunsElement, run_parts}
use Rattle.packed_readings.specs.declared.count.Count.{Count}
use Rattle.packed_readings.specs.declared.count.Count.TheVariants.{Last as last, Part as part}
use Rattle.packed_readings.specs.Counts.{size_fault}
use Rattle.packed_writer.specs.proving.Values.{FieldFits}
use Rattle.asn_base.specs.Seen.{constraint_of}
use Rattle.bits.specs.Left.{bits_left}
use Rattle.std.specs.List.{AllByRecursion}

-- ---- stops

abbrev pub IsStopAt : Refusal → Stop → Type 0
IsStopAt e Memory = ⊥
IsStopAt e (Refused f ps) = (f ≡ e) × (ps.items ≡ [])

abbrev pub IsStopOf : PackedFault → Stop → Type 0
IsStopOf faults.Memory x = x ≡ Memory
IsStopOf (faults.Refused e) x = IsStopAt e x

abbrev pub IsWithin : Part → Stop → Stop → Type 0
IsWithin p Memory x = x ≡ Memory
IsWithin p (Refused e ps) Memory = Unit {0}
IsWithin p (Refused e ps) (Refused f qs) = (f ≡ e) × (qs.items ≡ p ∷ ps.items)

-- the fault of a message that stops at this bit
abbrev pub IsRefusalAt : Stop → ℕ → PerFault → Type 0
IsRefusalAt Memory i e = e ≡ per.Memory
IsRefusalAt (Refused d ps) i per.Memory = ⊥
IsRefusalAt (Refused d ps) i per.MessageLimit = ⊥
IsRefusalAt (Refused d ps) i (per.Refused u) = (u.refusal ≡ d) × (u.bit ≡ i) × (u.path.items ≡ ps.items)

-- ---- answers

-- this was read, and these bits are left
abbrev pub IsGot : {X : Type 0} → Reading (Taken X) → X → Progress → Bits → Type 0
IsGot o v p r = o ≡ read (taken v p.skipped p.left) r

-- the bits are refused for this, and those from the fault's place on are left
abbrev pub IsStop : {X : Type 0} → Reading X → Stop → Bits → Type 0
IsStop o Memory r = Unit {0}
IsStop o (Refused e ps) r = o ≡ refused (record { why = e; path = ps.items }) r

-- Fewer values may begin, or as many; and each addition that was skipped took a bit at least.
pub record Advanced (p : Progress) (b : Bits) (q : Progress) (r : Bits) : Type 0 where
  pub left : q.left ≤ p.left
  pub room : q.skipped + length r ≤ p.skipped + length b

-- there is room to count each bit
abbrev pub HasRoom : Progress → Bits → Type 0
HasRoom p b = p.skipped + length b ≤ 2 ^ 62

-- ---- components

abbrev pub HasComponent : List Resolved → TypeNumber → ℕ → Component → Type 0
HasComponent s t i c = slice_get (components (kind_at s t)) i ≡ Some c

abbrev pub row_of_values : List (Option Value) → Row
row_of_values vs = row_of_options (map (option_map abstract) vs)

-- a stop without parts, of a call that has none
abbrev pub IsBare : {X : Type 0} → Outcome X → (rest : Bits) → Stop → Type 0
IsBare o r Memory = Unit {0}
IsBare o r (Refused e ps) = (o ≡ stops e r) × (ps.items ≡ [])

-- ---- elements

abbrev pub gathered : Gathered → Elements
gathered g = record { values = map abstract g.values.items; before = bits_left g.before }

-- how many items one number can announce; a fragment has some
abbrev pub IsFewParts : Count → Type 0
IsFewParts (last n) = n < 16384
IsFewParts (part m) = (1 ≤ m) × (m ≤ 4)

abbrev pub IsLess : Next → ℕ → ℕ → Type 0
IsLess nexts.Nothing m n = Unit {0}
IsLess (nexts.More g) m n = m < n

-- what is read from the next number on, after elements
abbrev pub after_part : RunsElement → Fragment → ℕ → Next → Elements → Progress → Bits → Reading (Taken Elements)
after_part value x f nexts.Nothing es p r = read (taken es p.skipped p.left) r
after_part value x f (nexts.More g) es p r =
    run_parts value x.size.sorted (size_fault (constraint_of x.size.constraint.now) x.size.outside) f g es
    p.skipped p.left r

abbrev pub IsPart : RunsElement → Fragment → Elements → Progress → Bits → Next → Elements → Progress → Bits → Type 0
IsPart value x es p b y es' q r =
    (f : ℕ)
    → run_parts value x.size.sorted (size_fault (constraint_of x.size.constraint.now) x.size.outside) (suc f) x.full
    es p.skipped p.left b
    ≡ after_part value x f y es' q r

abbrev pub AreSent : List Resolved → TypeNumber → List Sent → Type 0
AreSent s t = AllByRecursion (λ x. FieldFits s t x.field)
