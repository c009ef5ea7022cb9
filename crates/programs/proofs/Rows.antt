-- Rows of jobs and their files: what a part of a conclusion says, in full.
use Rattle.std.proofs.Common.{◌≡◌, ◌+◌, ◌≤◌, ℕ, List, [], ◌∷◌, refl, string_bytes}
use Rattle.std.specs.Prelude.{String, codes}
use Rattle.std.specs.Global.{Global}
use Rattle.command_line.specs.declared.request.Job.{Job}
use Rattle.diagnostics.specs.messages.declared.fault.Fault.TheVariants as faults
use Rattle.programs.specs.Jobs.{IsNoInput, NamesFile, count_inputs, names}

-- words are refused only if standard input is named twice
input_twice : (job : Job) (t : String Global)
    → IsNoInput job (faults.BadWords t)
    → 2 ≤ count_inputs (names job.files.items) + count_inputs (names job.newer.items)
input_twice job t h = h

-- a file that isn't there is one that the job names
file_named : (job : Job) (t : String Global) → IsNoInput job (faults.NoFile t) → NamesFile job (string_bytes t)
file_named job t h = h

two_inputs : count_inputs (codes "-" ∷ codes "m.asn" ∷ codes "-" ∷ []) ≡ 2
two_inputs = refl
