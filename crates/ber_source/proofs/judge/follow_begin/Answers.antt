use Rattle.std.proofs.Common.{refl}
use Rattle.octet_answers.specs.States.{begun}
use Rattle.ber_source.proofs.Fitting.{knows_more}
use Rattle.ber_source.proofs.judge.follow_begin.Goals as goal

pub returns : goal.returns
returns c s ts i = knows_more s c.args.judge.now (record { last = c.args.id; fresh = _; fits = c.args.judge.now.fits }) ts (begun c.args.id) i refl (λ h. (h, tt))
