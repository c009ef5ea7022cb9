use Rattle.std.proofs.Common.{arith}
use Rattle.source_text.specs.Shown.{cut}
use Rattle.source_text.proofs.Going.{cut_here, cut_none, cut_step, start, stop}
use Rattle.source_text.proofs.line.cut.Goals as goal

pub loop-c-init : goal.loop-c-init
loop-c-init c =
    start (cut 60) c.args.text.now c.into_iter-c-iterator.result.rest.now _ c.utf8.text (cc) c.new-line.ensures.bytes

pub returns-then-left-eq0 : goal.returns-then-left-eq0
returns-then-left-eq0 c =
    cut_here c.loop-c.left c.in-Some.c c.loop-c.c-iterator.rest.now c.next.new.self.rest.now _ _ _
    c.in-Some.ensures.steps.0 c.if-left-eq0.true c.loop-c.invariant c.in_ok-push_str.ensures.bytes

pub loop-c-preserved : goal.loop-c-preserved
loop-c-preserved c =
    cut_step c.loop-c.left c.saturating_sub-left.result c.in-Some.c c.loop-c.c-iterator.rest.now
    c.next.new.self.rest.now _ _ _ c.in-Some.ensures.steps.0 (omega arith) c.loop-c.invariant c.in_ok-push_shown.ensures

pub returns : goal.returns
returns c =
    stop (cut c.loop-c.left) c.loop-c.c-iterator.rest.now _ _ (cut_none c.loop-c.left) c.in-None.ensures.steps.0.0
    c.loop-c.invariant
