use Rattle.std.proofs.Common.{subst}
use Rattle.ber_source.specs.Fits.{AllowsNone}
use Rattle.ber_source.proofs.Fitting.{kind_there}
use Rattle.ber_source.proofs.judge.may_be_empty.Goals as goal

pub returns-in-Some : goal.returns-in-Some
returns-in-Some c h r there = subst AllowsNone (kind_there c.in-Some.ensures.1 there) (c.allows_none.ensures.0 h)
