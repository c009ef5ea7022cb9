use Rattle.account_checker.proofs.Steps.{where_true}
use Rattle.account_checker.proofs.walk.is_at.Goals as goal

pub returns-then-checks : goal.returns-then-checks
returns-then-checks c = λ s. where_true c.if-checks.true (c.are_contents.ensures s)
