use Rattle.std.proofs.Common.{take, length, ap, ◌∙◌}
use Rattle.account_checker.proofs.Fronts.{take_front}
use Rattle.account_checker.proofs.header.following.Goals as goal

pub returns-else-are_equal : goal.returns-else-are_equal
returns-else-are_equal c = λ x e.
    let f = c.split_at.ensures.front ∙ ap (take (length c.args.first.now)) e ∙ take_front c.args.first.now x in
    let t = c.are_equal.ensures.1 f in cc
