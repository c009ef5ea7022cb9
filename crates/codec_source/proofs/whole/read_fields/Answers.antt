use Rattle.std.proofs.Common.{arith, length, ap, sym, subst}
use Rattle.codec_code.specs.Routines.{routine_at}
use Rattle.codec_source.specs.proving.Wholes.{ReadsOn, not_once}
use Rattle.codec_source.proofs.Smalls.{one_field}
use Rattle.codec_source.proofs.whole.read_fields.Goals as goal

pub loop-field-init : goal.loop-field-init
loop-field-init g c = not_once

pub loop-field-preserved : goal.loop-field-preserved
loop-field-preserved g c = one_field (routine_at c.args.code.now) g.S.Source.takes c.in-Some.ensures c.loop-field.invariant (c.in-Ok-true.ensures.taken c.in-Ok-true.field-0-test)

pub loop-field-smaller : goal.loop-field-smaller
loop-field-smaller g c = let e = ap length c.in-Some.ensures in omega (arith, e)

pub returns-in-Ok-false-clause-ok : goal.returns-in-Ok-false-clause-ok
returns-in-Ok-false-clause-ok g c =
    subst (λ q. ReadsOn (routine_at c.args.code.now) g.S.Source.takes c.args.steps.now c.loop-field.rest.now c.args.source.now q) (sym (c.in-Ok-false.ensures.same c.in-Ok-false.field-0-test)) c.loop-field.invariant

pub returns-clause-ok : goal.returns-clause-ok
returns-clause-ok g c = c.loop-field.invariant
