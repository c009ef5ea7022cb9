use Rattle.std.proofs.Common.{◌++◌, string_bytes, ap, ◌∙◌}
use Rattle.std.proofs.Math.Utf8.{encode}
use Rattle.value_text.proofs.Doubled.{other_step, quote_step}
use Rattle.value_text.proofs.string.append_doubled.Goals as goal
use Rattle.value_text.proofs.string.append_doubled.Goals.{then-c-eq34+in_ok-push, else-c-eq34}

pub loop-c-preserved : goal.loop-c-preserved
loop-c-preserved c =
    let new = c.in_ok-push-2.ensures.bytes in
    elim c.if-c-eq34.branch [
      | then-c-eq34+in_ok-push w ↦
          quote_step c.in-Some.c _ _ _ _ _ _ c.in-Some.ensures.steps.0 w.if-c-eq34.true c.loop-c.invariant
          w.in_ok-push.ensures.bytes (new ∙ ap (λ o. string_bytes o ++ encode c.in-Some.c) w.out-is)
      | else-c-eq34 w ↦
          other_step c.in-Some.c _ _ _ _ _ c.in-Some.ensures.steps.0 w.if-c-eq34.false c.loop-c.invariant
          (new ∙ ap (λ o. string_bytes o ++ encode c.in-Some.c) w.out-is)
    ]
