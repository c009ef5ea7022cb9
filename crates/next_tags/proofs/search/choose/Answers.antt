use Rattle.next_tags.proofs.Finding.{called_here, step_over}
use Rattle.next_tags.proofs.search.choose.Goals as goal

pub returns-in-Some-called-clause-some : goal.returns-in-Some-called-clause-some
returns-in-Some-called-clause-some c =
    called_here c.args.code.now c.args.tag c.args.calls.now c.loop-step.rest.now c.in-Some.following.now c.loop-step.index c.in-Some.step.now c.in-Some-called.id c.loop-step.invariant c.in-Some.ensures.cases.0 c.in-Some-called.ensures.some

pub loop-step-preserved : goal.loop-step-preserved
loop-step-preserved c =
    step_over c.args.code.now c.args.tag c.args.calls.now c.loop-step.rest.now c.in-Some.following.now c.loop-step.index c.in-Some.step.now c.loop-step.invariant c.in-Some.ensures.cases.0 c.in-None.ensures.none
