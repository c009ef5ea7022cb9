use Rattle.std.proofs.Common.{arith, []}
use Rattle.std.proofs.lemmas.List.{append-nil}
use Rattle.ranges.proofs.Skips.{skipped_left, skipped_right}
use Rattle.ranges.proofs.Steps.{step_left, step_right, ended_left, ended_right}
use Rattle.ranges.proofs.meet.meet.Goals as goal
use Rattle.ranges.proofs.meet.meet.Goals.{then-loop-i-test+else-j-right, else-loop-i-test}

pub loop-i-preserved : goal.loop-i-preserved
loop-i-preserved c =
    let later = c.past-j.ensures.later in (
      c.loop-i.invariant.0,
      c.past-j.ensures.within,
      λ rest m.
          let k = c.in_ok-keep.ensures rest in
          rw k.are
          (c.loop-i.invariant.2 k.kept
          (step_right _ _ _ _ _ _ _ rest k.kept c.loop-i-test.true c.if-j-right.true c.common-part.ensures
          (c.ends_at_most.ensures.no c.if-ends_at_most.false) k.is_kept
          (skipped_right _ _ _ _ _ _ rest c.requires.left (omega (arith, later)) c.past-j.ensures.within c.loop-i-test.true
          c.past-j.ensures.skipped m))),
    )

pub loop-i-preserved-then-ends_at_most : goal.loop-i-preserved-then-ends_at_most
loop-i-preserved-then-ends_at_most c =
    let later = c.past-i.ensures.later in (
      c.past-i.ensures.within,
      c.loop-i.invariant.1,
      λ rest m.
          let k = c.in_ok-keep.ensures rest in
          rw k.are
          (c.loop-i.invariant.2 k.kept
          (step_left _ _ _ _ _ _ _ rest k.kept c.loop-i-test.true c.if-j-right.true c.common-part.ensures
          (c.ends_at_most.ensures.yes c.if-ends_at_most.true) k.is_kept
          (skipped_left _ _ _ _ _ _ rest c.requires.right (omega (arith, later)) c.past-i.ensures.within c.if-j-right.true
          c.past-i.ensures.skipped m))),
    )

pub returns : goal.returns
returns c =
    elim c.loop-i-test.branch [
      | then-loop-i-test+else-j-right w ↦
          rw append-nil at (c.loop-i.invariant.2 [] (ended_right c.args.left.now c.args.right.now c.loop-i.i c.loop-i.j w.if-j-right.false))
      | else-loop-i-test w ↦ rw append-nil at (c.loop-i.invariant.2 [] (ended_left c.args.left.now c.args.right.now c.loop-i.i c.loop-i.j w.loop-i-test.false))
    ]
