use Rattle.der_check.proofs.Shortened.{bare_none, bare_some}
use Rattle.der_check.proofs.heads.is_bare.Goals as goal

pub returns-in_default : goal.returns-in_default
returns-in_default c = λ y. bare_none c.args.steps.now c.in_default.ensures.cases

pub returns-in_default-step : goal.returns-in_default-step
returns-in_default-step c = λ y. bare_some c.args.steps.now c.in-Some.ensures.cases.0 c.in_default-step.not-Head
