use Rattle.std.proofs.Common.{refl}
use Rattle.check_jobs.proofs.checks.check.Goals as goal

-- a device failed, so this says nothing
pub returns-clause-refused : goal.returns-clause-refused
returns-clause-refused g c = λ h. absurd (h c.in-Err.sent refl)
