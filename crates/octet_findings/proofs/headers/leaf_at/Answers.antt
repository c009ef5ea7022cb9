use Rattle.std.proofs.Common.{arith, ◌∙◌, ap, not}
use Rattle.octet_findings.proofs.Fronts.{header_some}
use Rattle.octet_findings.proofs.Leaves.{same_next}
use Rattle.octet_findings.proofs.headers.leaf_at.Goals as goal
use Rattle.octet_findings.proofs.headers.leaf_at.Goals.{else-is_primitive-via-then-is_primitive+else-after_header-at, else-is_primitive-via-else-is_primitive}

pub loop-preserved : goal.loop-preserved
loop-preserved c =
    let few = c.in-Some.ensures.few in
    let some = header_some c.in-Some.ensures.some in
    let later = c.next_start-start.ensures.later few in
    let far = c.loop.invariant.far in
    record {
      same = same_next c.lemma_one_front.ensures.header c.loop.invariant.same c.in-Some.ensures.some
          (λ p q. elim c.else-is_primitive.branch [
            | else-is_primitive-via-then-is_primitive+else-after_header-at w ↦
                w.if-after_header-at.false (w.after_header.ensures (omega (arith, few)) ∙ q)
            | else-is_primitive-via-else-is_primitive w ↦
                let e = c.is_primitive.ensures ∙ ap not p in
                let n = w.if-is_primitive.false in
                absurd cc
          ])
          (λ p l. c.next_start-start.ensures.within p l few)
          (λ l. c.next_start-start.ensures.after l few)
          (λ p. c.next_start-start.ensures.primitive p few);
      far = omega (arith, some, later, far);
    }
