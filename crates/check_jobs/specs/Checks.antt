-- What octcheck prints for a job: the line of the verdict on its claim.
use Rattle.std.specs.Prelude.{◌≡◌, ℕ, List, Bool, true, false, map, string_bytes}
use Rattle.account_checker.specs.declared.reason.Verdict.{Verdict}
use Rattle.account_checker.specs.declared.reason.Verdict.TheVariants.{Yes, No}
use Rattle.judging.specs.front_end.Accepted.{octets_of}
use Rattle.judging.specs.Judged.{IsJudged, answer_of}
use Rattle.judging.specs.Refusals.{IsNotJudged}
use Rattle.judging.specs.messages.declared.fault.Fault.{Fault}
use Rattle.sinks.specs.Sent.{SinkState, SentAll, SentFront}
use Rattle.command_line.specs.declared.request.Job.{Job}
use Rattle.check_jobs.specs.declared.inputs.Inputs.{Inputs}
use Rattle.check_jobs.specs.Inputs.{contents, given_in, line_of, octets_given}

-- whether the verdict is a yes
abbrev pub is_yes : Verdict → Bool
is_yes Yes = true
is_yes (No r) = false

-- The job claims that its octets encode the value that it gives, as its account describes. The output is the verdict on
-- that claim, as one line.
pub record IsVerdictLine (job : Job) (inputs : Inputs) (yes : Bool) (output : List ℕ) : Type 0 where
  pub verdict : Verdict
  -- the verdict is the one on the texts, the name of a type, the value that is given, the octets and the account
  pub judged : IsJudged (map octets_of inputs.files.items) (string_bytes job.ty) (given_in job.value)
      (octets_given job.octets inputs.octets) (contents inputs.account) verdict
  pub output_is : output ≡ line_of (answer_of verdict)
  pub yes_is : yes ≡ is_yes verdict

-- there is no verdict on the claim of the job, for the first fault in the order texts, names, value and account
abbrev pub IsNotChecked : Job → Inputs → Fault → Type 0
IsNotChecked job inputs fault =
    IsNotJudged (map octets_of inputs.files.items) (string_bytes job.ty) (given_in job.value)
    (contents inputs.account) fault

-- a sink went from state a to state b because it took exactly the line of the verdict
pub record IsChecked (job : Job) (inputs : Inputs) (yes : Bool) (a b : SinkState) : Type 0 where
  pub output : List ℕ
  pub line : IsVerdictLine job inputs yes output
  pub sent : SentAll a b output

-- the sink took exactly the first n octets of the line of the verdict, fewer than there are, and one call failed
pub record IsCheckedInPart (job : Job) (inputs : Inputs) (a b : SinkState) (n : ℕ) : Type 0 where
  pub yes : Bool
  pub output : List ℕ
  pub line : IsVerdictLine job inputs yes output
  pub sent : SentFront a b output n
