use Rattle.account_checker.specs.Follows.{sizes}
use Rattle.account_checker.proofs.Ends.{are_right}
use Rattle.account_checker.proofs.order.are_known.Goals as goal

pub returns-else-not-are_in_order : goal.returns-else-not-are_in_order
returns-else-not-are_in_order c = λ known rs rest e f.
    let m = c.measure-measured.ensures rs rest e f in
    are_right c.args.checks c.in-Placed.set (sizes rs) c.in-Placed.is (c.are_in_order.ensures.0 c.if-not-are_in_order.false) c.if-not-checks.false m.1 (m.2 known)
