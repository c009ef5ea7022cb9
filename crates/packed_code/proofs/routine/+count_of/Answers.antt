use Rattle.std.proofs.Common.{sym, ◌∙◌}
use Rattle.packed_code.proofs.Runs.{group_counted}
use Rattle.packed_code.proofs.routine.+count_of.Goals as goal

pub returns-in-Some-group_of-clause-is : goal.returns-in-Some-group_of-clause-is
returns-in-Some-group_of-clause-is t c =
    group_counted c.args.additions.now c.in-Some.first c.in-Some.following.now c.after-rest.result.now c.in-Some-group_of.group
    c.run_of-others.result c.count_of-in-Some-group_of.result c.in-Some.ensures (sym c.group_of.ensures ∙ c.in-Some-group_of.is)
    c.run_of-others.ensures.is c.after-rest.ensures c.count_of-in-Some-group_of.ensures.is
