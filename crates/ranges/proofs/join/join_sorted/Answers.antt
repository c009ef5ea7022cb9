use Rattle.std.proofs.Common.{◌≡◌, arith, false, true, sym, ◌∙◌}
use Rattle.ranges.proofs.Steps.{pushed, finished, step_apart, step_touching}
use Rattle.ranges.proofs.join.join_sorted.Goals as goal
use Rattle.ranges.proofs.join.join_sorted.Goals.{then-ends_before+in_ok-push, else-ends_before}

pub loop-range-preserved : goal.loop-range-preserved
loop-range-preserved c rest j =
    elim c.if-ends_before.branch [
      | then-ends_before+in_ok-push w ↦
          rw (w.all-is, w.in_ok-push.ensures.items, pushed)
          (c.loop-range.invariant _
          (step_apart _ _ _ _ rest c.loop-range-test.true (c.ends_before.ensures.0 w.if-ends_before.true)
          (rw w.last-is at j)))
      | else-ends_before w ↦
          rw w.all-is
          (c.loop-range.invariant _
          (step_touching _ _ _ _ _ rest c.loop-range-test.true
          (λ e. absurd (let h : false ≡ true = sym w.if-ends_before.false ∙ c.ends_before.ensures.1 e in grind arith))
          w.joined-last.ensures
          (rw w.last-is at j)))
    ]

pub returns : goal.returns
returns c = rw c.in_ok-push-2.ensures.items (finished _ _ _ _ _ c.loop-range-test.false c.loop-range.invariant)
