-- Faults of files.
use Rattle.std.proofs.Common.{ℕ, List}
use Rattle.diagnostics.specs.messages.declared.fault.Fault.{Fault}
use Rattle.diagnostics.specs.messages.declared.fault.Fault.TheVariants as faults
use Rattle.programs.specs.Jobs.{IsFileFault}

-- a fault of a file with one property is one of a file with another, if that follows
pub widen : (P Q : List ℕ → Type 0) → ((x : List ℕ) → P x → Q x) → (f : Fault) → IsFileFault P f → IsFileFault Q f
widen P Q h faults.Memory k = tt
widen P Q h (faults.File x) k = h _ k
widen P Q h (faults.NoFile x) k = h _ k
widen P Q h (faults.Folder x) k = h _ k
widen P Q h (faults.BadWords x) k = absurd k
widen P Q h (faults.Help x) k = absurd k
widen P Q h (faults.Front x) k = absurd k
widen P Q h (faults.Newer x) k = absurd k
widen P Q h (faults.NoType x) k = absurd k
widen P Q h (faults.NoNewerType x) k = absurd k
widen P Q h (faults.NoValue x) k = absurd k
widen P Q h (faults.Value x) k = absurd k
widen P Q h (faults.Notation x) k = absurd k
widen P Q h faults.TooLong k = absurd k
widen P Q h (faults.Device x) k = absurd k
widen P Q h (faults.DecodeError x) k = absurd k
widen P Q h (faults.BitDecodeError x) k = absurd k
widen P Q h faults.MessageLimit k = absurd k
widen P Q h (faults.NotAccount x) k = absurd k
