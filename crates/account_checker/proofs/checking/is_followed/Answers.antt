use Rattle.std.proofs.Common.{[], sym, ◌∙◌}
use Rattle.account_checker.proofs.Outcomes.{answer_exactly}
use Rattle.account_checker.proofs.Rows.{whole_rows}
use Rattle.account_checker.proofs.checking.is_followed.Goals as goal

pub returns : goal.returns
returns c =
    let r = answer_exactly _ c.follows.result (c.follows.ensures c.args.claim.account.now [] (whole_rows c.args.claim.account.now c.rows.ensures)) in
    (λ t. r.0 (sym c.is_some.ensures ∙ t), λ d. c.is_some.ensures ∙ r.1 d)
