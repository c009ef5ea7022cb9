-- What a sink has taken after a job.
use Rattle.std.specs.Prelude.{ℕ, List, Bool}
use Rattle.sinks.specs.Sent.{SinkState, SentAll, SentFront}
use Rattle.command_line.specs.declared.request.Job.{Job}
use Rattle.check_jobs.specs.declared.inputs.Inputs.{Inputs}
use Rattle.jobs.specs.Outputs.{IsOutput}

-- a sink went from state a to state b because it took exactly what the job asks for
pub record IsDone (job : Job) (inputs : Inputs) (yes : Bool) (a b : SinkState) : Type 0 where
  pub output : List ℕ
  pub asked : IsOutput job inputs yes output
  pub sent : SentAll a b output

-- the sink took exactly the first n octets of what the job asks for, fewer than there are, and one call failed
pub record IsDoneInPart (job : Job) (inputs : Inputs) (a b : SinkState) (n : ℕ) : Type 0 where
  pub yes : Bool
  pub output : List ℕ
  pub asked : IsOutput job inputs yes output
  pub sent : SentFront a b output n
