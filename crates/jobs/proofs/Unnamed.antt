-- A name that finds no type.
use Rattle.std.proofs.Common.{◌≡◌, ℕ, List}
use Rattle.resolve.specs.Program.{Program}
use Rattle.asnc.specs.messages.declared.fault.Fault.{Fault}
use Rattle.asnc.specs.messages.declared.fault.Fault.TheVariants as faults
use Rattle.asnc.specs.named_values.Meant.{IsNoType, no_memory, no_type}

-- why a name finds no type is no failure of a device
pub not_a_device : {p : Program} {name : List ℕ} {e : Fault} {n : ℕ} → IsNoType p name e → e ≡ faults.Device n → ⊥
not_a_device no_memory h = cc
not_a_device (no_type a b) h = cc
