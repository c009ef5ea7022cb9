use Rattle.std.proofs.Common.{length, ◌-◌, inl, inr, arith}
use Rattle.std.proofs.lemmas.Option.{slice_get-get_or}
use Rattle.constraints.proofs.Noting.{trail_noted, trail_done}
use Rattle.constraints.proofs.column.note_trail.Goals as goal

pub note-requires-clause-target : goal.note-requires-clause-target
note-requires-clause-target c = λ j e.
    let v = c.args.trail.now in
    let l = c.loop-step-test.true in
    let here = slice_get-get_or v (length v - 1 - c.loop-step.step) 0 (omega (arith, l)) in
    trail_noted c.args.scope.now.program.types c.args.column.now.at.items c.loop-step.column.at.items c.args.start c.loop-step.step _ j v
    c.requires.trail c.loop-step.invariant.kept c.loop-step.invariant.done l here e

pub loop-step-preserved : goal.loop-step-preserved
loop-step-preserved c =
    let v = c.args.trail.now in
    let l = c.loop-step-test.true in
    let here = slice_get-get_or v (length v - 1 - c.loop-step.step) 0 (omega (arith, l)) in
    record {
      noted = c.in-Ok.ensures.noted;
      kept = λ i n. c.in-Ok.ensures.kept i (c.loop-step.invariant.kept i n);
      done = trail_done c.loop-step.column.at.items c.note.new.column.at.items c.loop-step.step _ v c.in-Ok.ensures.kept
          c.loop-step.invariant.done l here c.in-Ok.ensures.it;
    }

pub returns-in-Err-clause-first : goal.returns-in-Err-clause-first
returns-in-Err-clause-first c =
    let v = c.args.trail.now in
    let l = c.loop-step-test.true in
    let here = slice_get-get_or v (length v - 1 - c.loop-step.step) 0 (omega (arith, l)) in
    elim c.in-Err.ensures.first [
      | inl e ↦ inl e
      | inr f ↦ inr (length v - 1 - c.loop-step.step, _, here, f)
    ]
