-- What `show` prints: the headers of octets in lines, and after them the report of their refusal, if they are refused.
use Rattle.std.specs.Prelude.{◌≡◌, ℕ, List, ◌++◌, Bool, true, false, Option, Some, None, map, string_bytes}
use Rattle.asn_base.specs.Types.{Resolved}
use Rattle.resolve.specs.Program.{Program}
use Rattle.asnc.specs.front_end.Accepted.{Accepted, octets_of}
use Rattle.asnc.specs.Showing.{IsNotShownAs, IsShownAs}
use Rattle.asnc.specs.declared.showing.Listing.{Listing}
use Rattle.asnc.specs.messages.declared.fault.Fault.{Fault}
use Rattle.asnc.specs.messages.declared.fault.Fault.TheVariants as faults
use Rattle.asnc.specs.messages.declared.fault.DecodeError.{DecodeError}
use Rattle.diagnostics.specs.Heading.{heading_of, Begins}
use Rattle.command_line.specs.declared.request.Job.{Job}
use Rattle.check_jobs.specs.Inputs.{line_of, octets_given}
use Rattle.check_jobs.specs.declared.inputs.Inputs.{Inputs}

-- The output is these lines, and after them a line with the report of the refusal, which begins with the number and the
-- name of the fault.
pub record IsRefusalLine (lines : List ℕ) (u : DecodeError) (output : List ℕ) : Type 0 where
  pub report : List ℕ
  pub begins : Begins (heading_of (faults.DecodeError u)) report
  pub output_is : output ≡ line_of (lines ++ report)

-- The octets are accepted: the output is the lines alone, and `yes` is true. Or they are refused: the report of that is
-- after the lines, and `yes` is false.
abbrev pub EndsInRefusal : (lines : List ℕ) → Option DecodeError → (yes : Bool) → (output : List ℕ) → Type 0
EndsInRefusal lines None accepted output = (accepted ≡ true) × (output ≡ lines)
EndsInRefusal lines (Some u) accepted output = (accepted ≡ false) × IsRefusalLine lines u output

-- `show` prints the headers of the octets in the terms of the type of this name, and their refusal if they are refused.
pub record PrintsShown (p : Program) (s : List Resolved) (ty octets : List ℕ) (yes : Bool) (output : List ℕ)
    : Type 0 where
  pub listing : Listing
  pub shown : IsShownAs p s ty octets listing
  pub printed : EndsInRefusal (string_bytes listing.lines) listing.refusal yes output

-- The texts of the job's files are accepted, and the output is what `show` prints in their program.
pub record IsShownOutput (job : Job) (inputs : Inputs) (yes : Bool) (output : List ℕ) : Type 0 where
  pub program : Program
  pub types : List Resolved
  pub accepted : Accepted (map octets_of inputs.files.items) program types
  pub prints : PrintsShown program types (string_bytes job.ty) (octets_given job.octets inputs.octets) yes output

-- the texts of the job's files are accepted, and nothing is shown in their program, for the reason that the fault gives
pub record IsShowRefused (job : Job) (inputs : Inputs) (e : Fault) : Type 0 where
  pub program : Program
  pub types : List Resolved
  pub accepted : Accepted (map octets_of inputs.files.items) program types
  pub refused : IsNotShownAs program (string_bytes job.ty) e
