-- A name that is that of no type, as the refusal of each call.
use Rattle.std.proofs.Common.{ℕ, List}
use Rattle.asn_base.specs.Types.{Resolved}
use Rattle.encodings.specs.Rules.{Rules}
use Rattle.resolve.specs.Program.{Program}
use Rattle.judging.specs.messages.declared.fault.Fault.{Fault}
use Rattle.judging.specs.named_values.Meant.{IsNoType, no_memory, no_type}
use Rattle.asnc.specs.Reading.{IsNotReadAs}
use Rattle.asnc.specs.Showing.{IsNotShownAs}
use Rattle.asnc.specs.Unpacking.{IsNotUnpackedAs}

pub not_read : (p : Program) (s : List Resolved) (r : Rules) (n o : List ℕ) (f : Fault) → IsNoType p n f → IsNotReadAs p s r n o f
not_read p s r n o f no_memory = tt
not_read p s r n o f (no_type is none) = (is, none)

pub not_shown : (p : Program) (n : List ℕ) (f : Fault) → IsNoType p n f → IsNotShownAs p n f
not_shown p n f no_memory = tt
not_shown p n f (no_type is none) = (is, none)

pub not_unpacked : (p : Program) (s : List Resolved) (n o : List ℕ) (f : Fault) → IsNoType p n f → IsNotUnpackedAs p s n o f
not_unpacked p s n o f no_memory = tt
not_unpacked p s n o f (no_type is none) = (is, none)
