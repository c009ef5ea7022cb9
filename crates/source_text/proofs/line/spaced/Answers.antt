use Rattle.std.proofs.Common.{refl}
use Rattle.std.specs.List.{flat_map}
use Rattle.source_text.specs.Shown.{spaced_character}
use Rattle.source_text.proofs.Going.{start, step, stop}
use Rattle.source_text.proofs.line.spaced.Goals as goal

pub loop-c-init : goal.loop-c-init
loop-c-init c =
    start (flat_map spaced_character) c.args.text.now c.into_iter-c-iterator.result.rest.now _ c.utf8.text (cc)
    c.new-line.ensures.bytes

pub loop-c-preserved : goal.loop-c-preserved
loop-c-preserved c =
    step spaced_character c.in-Some.c c.loop-c.c-iterator.rest.now c.next.new.self.rest.now _ _ _
    c.in-Some.ensures.steps.0 c.loop-c.invariant c.in_ok-push_spaced.ensures

pub returns : goal.returns
returns c =
    stop (flat_map spaced_character) c.loop-c.c-iterator.rest.now _ _ refl c.in-None.ensures.steps.0.0
    c.loop-c.invariant
