use Rattle.std.proofs.Common.{rules, sym, subst, ◌≡◌}
use Rattle.std.specs.Prelude.{MatchBool}
use Rattle.asn_base.specs.Abstract.{abstract}
use Rattle.codec_code.specs.declared.step.Step.TheVariants.{Field}
use Rattle.codec_machine.specs.Frames.{StepTaken}
use Rattle.codec_machine.specs.OpenRows.{Carries}
use Rattle.codec_machine.proofs.InPlace as r
use Rattle.codec_machine.proofs.sequence.step_in_row.Goals as goal

pub returns-in-Ok-clause-ok : goal.returns-in-Ok-clause-ok
returns-in-Ok-clause-ok g c =
    let a = c.args.backend.now in
    let b = c.field_in_row.new.backend in
    subst (λ q. MatchBool c.in-Ok.taken
    (StepTaken c.args.rest.code.now (Carries g.B.Backend.opened c.args.row) c.args.rest.id.index q (abstract c.args.rest.value.now) a b)
    (b ≡ a)) (sym c.in-Field.is) c.in-Ok.ensures.ok

pub returns-in-Err-clause-refused : goal.returns-in-Err-clause-refused
returns-in-Err-clause-refused g c = r.step_refused c.args.step (Field c.in-Field.field) c.in-Field.is c.in-Err.ensures.refused
