use Rattle.std.proofs.Common.{◌+◌, refl}
use Rattle.jobs.proofs.streams.send_answer.Goals as goal

-- a device failed, so this says nothing
pub returns-in-Err-clause-ends : goal.returns-in-Err-clause-ends
returns-in-Err-clause-ends g c = λ h. absurd (h (c.args.progress.sent + c.in-Err.part) refl)
