-- A fault of no notation, reading or account is one of the texts, or of none.
use Rattle.std.proofs.Common.{◌≡◌, List, ℕ, Vec, refl}
use Rattle.std.specs.declared.alloc.Global.{Global}
use Rattle.command_line.specs.declared.request.Job.{Job}
use Rattle.account_text.specs.declared.stop.Stop.{Stop}
use Rattle.messages.specs.declared.fault.NotationFault.{NotationFault}
use Rattle.messages.specs.declared.fault.DecodeError.{DecodeError}
use Rattle.messages.specs.declared.fault.BitDecodeError.{BitDecodeError}
use Rattle.messages.specs.declared.fault.Fault.{Fault}
use Rattle.messages.specs.declared.fault.Fault.TheVariants as faults
use Rattle.diagnostics.specs.Locations.{files_of}
use Rattle.diagnostics.specs.Reports.{SaysInTexts, SaysPlace}

pub in_texts : (job : Job) (xs : List (Vec ℕ Global)) (y : List ℕ) (f : Fault) (line : List ℕ)
    → ((n : NotationFault) → f ≡ faults.Notation n → ⊥)
    → ((u : DecodeError) → f ≡ faults.DecodeError u → ⊥)
    → ((u : BitDecodeError) → f ≡ faults.BitDecodeError u → ⊥)
    → ((s : Stop) → f ≡ faults.NotAccount s → ⊥)
    → SaysInTexts (files_of job f) xs f line
    → SaysPlace job xs y f line
in_texts job xs y (faults.Notation n) line a b c d h = absurd (a n refl)
in_texts job xs y (faults.DecodeError u) line a b c d h = absurd (b u refl)
in_texts job xs y (faults.BitDecodeError u) line a b c d h = absurd (c u refl)
in_texts job xs y (faults.NotAccount s) line a b c d h = absurd (d s refl)
in_texts job xs y f line a b c d h = h
