-- What the call that decodes a message answers.
use Rattle.std.specs.Prelude.{◌≡◌, ◌≤◌, ℕ, List, ◌++◌, length}
use Rattle.asn_base.specs.Abstract.{AbstractValue}
use Rattle.asn_base.specs.Types.{TypeNumber, Resolved}
use Rattle.encodings.specs.Header.{Octets}
use Rattle.packed_encodings.specs.Packing.{Reads}
use Rattle.decode_faults.specs.declared.refusal.Refusal.TheVariants.{Truncated}
use Rattle.packed_reader.specs.declared.fault.PerFault.{PerFault}
use Rattle.packed_reader.specs.declared.fault.PerFault.TheVariants as per
use Rattle.packed_reader.specs.declared.fault.RefusedBits.{RefusedBits}
use Rattle.packed_reader.specs.Readings.{Fault}
use Rattle.packed_reader.specs.Values.{Answer, too_long, faulty}

-- a fault without its place
abbrev pub fault_of : RefusedBits → Fault
fault_of u = record { why = u.refusal; path = u.path.items }

-- The call refuses octets for what they are answered with: there are too many, or the fault is the first one, at its
-- bit and in its parts of the value. Without enough memory it says nothing.
abbrev pub IsRefusal : Answer → PerFault → Type 0
IsRefusal a per.Memory = Unit {0}
IsRefusal a per.MessageLimit = a ≡ too_long
IsRefusal a (per.Refused u) = a ≡ faulty (fault_of u) u.bit

-- Octets are the beginning of a longer message of the type, which is not too long.
pub record BeginsMessage (s : List Resolved) (t : TypeNumber) (o : Octets) : Type 0 where
  pub value : AbstractValue
  pub count : ℕ
  pub rest : Octets
  pub some : 1 ≤ length rest
  pub short : length (o ++ rest) ≤ 16777216
  pub whole : Reads s t value count (o ++ rest)

-- the fault is that bits end within what is read
abbrev pub IsTruncated : PerFault → Type 0
IsTruncated per.Memory = Unit {0}
IsTruncated per.MessageLimit = ⊥
IsTruncated (per.Refused u) = u.refusal ≡ Truncated
