-- The headers of a message in lines, and whether the message is accepted (X.690, 8.1).
use Rattle.std.specs.Prelude.{◌≡◌, ℕ, List, length, string_bytes, Option, Some, None}
use Rattle.asn_base.specs.Types.{Resolved}
use Rattle.encodings.specs.Rules.{Basic}
use Rattle.ber_reader.specs.declared.read.Read.{Read}
use Rattle.header_listing.specs.Listing.{IsListing}
use Rattle.resolve.specs.Program.{Program}
use Rattle.judging.specs.messages.declared.fault.Fault.{Fault}
use Rattle.judging.specs.messages.declared.fault.Fault.TheVariants as faults
use Rattle.judging.specs.messages.declared.fault.DecodeError.{DecodeError}
use Rattle.judging.specs.named_values.Named.{Names, TypeNamed}
use Rattle.asnc.specs.Reading.{IsReadBy, IsLocatedFault}
use Rattle.asnc.specs.declared.showing.Listing.{Listing}

-- Without a refusal the octets encode a value of type t by the basic rules, and exactly one. A refusal is true, with
-- the octet and the path at which reading stops.
abbrev pub IsBerVerdict : List Resolved → ℕ → List ℕ → Option DecodeError → Type 0
IsBerVerdict s t o None = (x : Read) × IsReadBy s Basic t o x
IsBerVerdict s t o (Some u) = IsLocatedFault s Basic t o u

-- the offset before which headers are shown: the octet of the refusal, or the number of octets
abbrev pub limit_of : List ℕ → Option DecodeError → ℕ
limit_of o None = length o
limit_of o (Some u) = u.offset

-- The lines are those of the headers of the octets, up to the octet of the refusal if they are refused.
pub record IsShown (s : List Resolved) (t : ℕ) (o : List ℕ) (l : Listing) : Type 0 where
  pub judged : IsBerVerdict s t o l.refusal
  pub stop : ℕ
  pub lines : IsListing o (limit_of o l.refusal) stop (string_bytes l.lines)

-- the text names a type, and the octets are shown in the terms of this type
pub record IsShownAs (p : Program) (s : List Resolved) (name o : List ℕ) (l : Listing) : Type 0 where
  pub type : ℕ
  pub named : Names p name type
  pub shown : IsShown s type o l

-- Nothing is shown, for the reason that the fault gives. `NoType`: the text names no type. `Memory` says nothing.
abbrev pub IsNotShownAs : Program → List ℕ → Fault → Type 0
IsNotShownAs p name faults.Memory = Unit {0}
IsNotShownAs p name (faults.NoType x) = (string_bytes x ≡ name) × ((t : ℕ) → TypeNamed p name t → ⊥)
IsNotShownAs p name fault = ⊥
