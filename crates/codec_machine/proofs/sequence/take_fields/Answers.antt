use Rattle.std.proofs.Common.{rules, arith, ◌≡◌, sym, ap, subst, length}
use Rattle.std.specs.Prelude.{MatchBool}
use Rattle.asn_base.specs.Abstract.{abstract}
use Rattle.codec_code.specs.Steps.{Steps}
use Rattle.codec_machine.specs.Frames.{Progress, StepTaken}
use Rattle.codec_machine.specs.OpenRows.{Carries}
use Rattle.codec_machine.proofs.InPlace as r
use Rattle.codec_machine.proofs.OpenRows.{carries_joins, carries_nothing}
use Rattle.codec_machine.proofs.sequence.take_fields.Goals as goal

pub loop-step-init : goal.loop-step-init
loop-step-init g c = (
  r.no_progress (Steps c.args.rest.code.now c.args.rest.id.index c.args.rest.steps.now (abstract c.args.rest.value.now))
      c.args.backend.now (carries_nothing g.B.Backend.opened c.args.row c.args.backend.now),
  omega arith,
)

pub loop-step-preserved : goal.loop-step-preserved
loop-step-preserved g c =
    let s = c.args.rest.code.now in
    let t = c.args.rest.id.index in
    let v = abstract c.args.rest.value.now in
    let adds = Carries g.B.Backend.opened c.args.row in
    let a = c.loop-step.backend in
    let b = c.step_in_row.new.backend in
    let taken : StepTaken s adds t c.in-Some.step v a b =
    subst (λ q. MatchBool q (StepTaken s adds t c.in-Some.step v a b) (b ≡ a)) c.if-not-taken.false c.in-Ok.ensures.ok in
    let e = ap length c.in-Some.ensures in (
      r.progress_more adds (carries_joins g.B.Backend.opened c.args.row) (Steps s t c.args.rest.steps.now v) (Steps s t c.loop-step.left.now v) (Steps s t c.in-Some.after.now v)
          c.args.backend.now a b c.loop-step.invariant.0
          (subst (λ q. Progress adds (Steps s t q v) a (Steps s t c.in-Some.after.now v) b) (sym c.in-Some.ensures) (taken c.in-Some.after.now)),
      omega (arith, e, c.loop-step.invariant.1),
    )

pub returns-then-not-taken-clause-ok : goal.returns-then-not-taken-clause-ok
returns-then-not-taken-clause-ok g c =
    let s = c.args.rest.code.now in
    let t = c.args.rest.id.index in
    let v = abstract c.args.rest.value.now in
    let adds = Carries g.B.Backend.opened c.args.row in
    let a = c.loop-step.backend in
    let b = c.step_in_row.new.backend in
    let same : b ≡ a = subst (λ q. MatchBool q (StepTaken s adds t c.in-Some.step v a b) (b ≡ a)) c.if-not-taken.true c.in-Ok.ensures.ok in
    subst (λ q. Progress adds (Steps s t c.args.rest.steps.now v) c.args.backend.now (Steps s t c.loop-step.left.now v) q) (sym same) c.loop-step.invariant.0

pub returns-in-Err-clause-refused : goal.returns-in-Err-clause-refused
returns-in-Err-clause-refused g c =
    r.steps_refused c.args.rest.code.now (Carries g.B.Backend.opened c.args.row) c.args.rest.id.index (abstract c.args.rest.value.now) c.args.rest.steps.now c.loop-step.left.now
    c.in-Some.step c.in-Some.after.now c.args.backend.now c.loop-step.backend c.in-Err.fault c.in-Some.ensures c.loop-step.invariant.0
    (c.in-Err.ensures.refused c.in-Some.after.now)
