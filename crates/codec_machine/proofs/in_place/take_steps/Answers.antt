use Rattle.std.proofs.Common.{rules, arith, ◌≡◌, sym, ap, subst, length}
use Rattle.std.specs.Prelude.{MatchBool}
use Rattle.asn_base.specs.Abstract.{abstract}
use Rattle.codec_code.specs.Steps.{Steps}
use Rattle.codec_machine.specs.Frames.{Progress, StepTaken}
use Rattle.codec_machine.proofs.InPlace as r
use Rattle.codec_machine.proofs.in_place.take_steps.Goals as goal

pub loop-step-preserved : goal.loop-step-preserved
loop-step-preserved g c =
    let s = c.args.code.now in
    let t = c.args.id.index in
    let v = abstract c.args.value.now in
    let adds = g.B.Backend.adds in
    let a = c.loop-step.backend in
    let b = c.step_at_once.new.backend in
    let taken : StepTaken s adds t c.in-Some.step v a b =
    subst (λ q. MatchBool q (StepTaken s adds t c.in-Some.step v a b) (b ≡ a)) c.if-not-taken.false c.in-Ok.ensures.ok in
    let e = ap length c.in-Some.ensures in (
      r.progress_more adds (search rules) (Steps s t c.args.steps.now v) (Steps s t c.loop-step.left.now v) (Steps s t c.in-Some.rest.now v)
          c.args.backend.now a b c.loop-step.invariant.0
          (subst (λ q. Progress adds (Steps s t q v) a (Steps s t c.in-Some.rest.now v) b) (sym c.in-Some.ensures) (taken c.in-Some.rest.now)),
      omega (arith, e, c.loop-step.invariant.1),
    )

pub returns-then-not-taken-clause-ok : goal.returns-then-not-taken-clause-ok
returns-then-not-taken-clause-ok g c =
    let s = c.args.code.now in
    let t = c.args.id.index in
    let v = abstract c.args.value.now in
    let adds = g.B.Backend.adds in
    let a = c.loop-step.backend in
    let b = c.step_at_once.new.backend in
    let same : b ≡ a = subst (λ q. MatchBool q (StepTaken s adds t c.in-Some.step v a b) (b ≡ a)) c.if-not-taken.true c.in-Ok.ensures.ok in
    subst (λ q. Progress adds (Steps s t c.args.steps.now v) c.args.backend.now (Steps s t c.loop-step.left.now v) q) (sym same) c.loop-step.invariant.0

pub returns-in-Err-clause-refused : goal.returns-in-Err-clause-refused
returns-in-Err-clause-refused g c =
    r.steps_refused c.args.code.now g.B.Backend.adds c.args.id.index (abstract c.args.value.now) c.args.steps.now c.loop-step.left.now
    c.in-Some.step c.in-Some.rest.now c.args.backend.now c.loop-step.backend c.in-Err.fault c.in-Some.ensures c.loop-step.invariant.0
    (c.in-Err.ensures.refused c.in-Some.rest.now)
