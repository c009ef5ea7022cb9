use Rattle.std.proofs.Common.{sym, ◌∙◌}
use Rattle.packed_code.proofs.Runs.{group_pushed}
use Rattle.packed_code.proofs.routine.+push_additions.Goals as goal

pub returns-in_ok-push_additions-in-Some-group_of : goal.returns-in_ok-push_additions-in-Some-group_of
returns-in_ok-push_additions-in-Some-group_of t c =
    group_pushed c.args.out.now.items c.args.additions.now c.in-Some.first c.in-Some.following.now c.after-rest.result.now c.in-Some-group_of.group
    c.run_of-others.result c.push_group.new.out.items c.push_additions-in-Some-group_of.new.out.items c.in-Some.ensures
    (sym c.group_of.ensures ∙ c.in-Some-group_of.is) c.run_of-others.ensures.is c.after-rest.ensures
    c.in_ok-push_group-in-Some-group_of.ensures c.in_ok-push_additions-in-Some-group_of.ensures
