use Rattle.std.proofs.Common.{rules, refl, subst, [], ◌∷◌, ◌++◌}
use Rattle.asn_base.specs.Abstract.{abstract}
use Rattle.codec_code.specs.Events.{leaves_out}
use Rattle.codec_code.specs.Steps as steps
use Rattle.codec_machine.specs.declared.frame.Frame.TheVariants.{Routine}
use Rattle.codec_machine.specs.Frames.{LeavesOut, WritesIt}
use Rattle.codec_machine.proofs.Places.{match_none, match_some}
use Rattle.codec_machine.proofs.Inversion.{no_field, of_field}
use Rattle.codec_machine.proofs.Replacing as r
use Rattle.codec_machine.proofs.run_step.field_step.Goals as goal

pub returns-in-Err-clause-refused : goal.returns-in-Err-clause-refused
returns-in-Err-clause-refused g c = λ e es d. no_field c.in-Err.ensures.refused (of_field d)

pub returns-in_ok-leave_out-in-None-clause-ok : goal.returns-in_ok-leave_out-in-None-clause-ok
returns-in_ok-leave_out-in-None-clause-ok g c = record {
  events = leaves_out (steps.has_default c.args.field.need) ∷ [];
  added = subst (λ q. g.B.Backend.adds c.args.backend.now (leaves_out q ∷ []) c.leave_out.new.self) c.has_default.ensures c.in_ok-leave_out-in-None.ensures;
  replaced = r.field_out c.args.rest.code.now c.args.rest.id c.args.frames.now.items c.args.rest.steps c.args.rest.value c.args.field
      (c.args.frames.now.items ++ Routine c.args.rest.id c.args.rest.steps c.args.rest.value ∷ []) (match_none (λ w. WritesIt c.args.rest.code.now c.args.rest.id.index c.args.field (abstract c.args.rest.value.now) (abstract w.now)) c.in-Ok.written c.in-Ok.ensures.ok c.in-None.is) refl;
}

pub returns-in_ok-add-in-Some-clause-ok : goal.returns-in_ok-add-in-Some-clause-ok
returns-in_ok-add-in-Some-clause-ok g c = record {
  events = [];
  added = (search rules);
  replaced = r.field_in c.args.rest.code.now c.args.rest.id c.args.frames.now.items c.args.rest.steps c.args.rest.value c.args.field c.add.new.frames.items
      (c.add.new.frames.items ++ Routine c.args.field.ty c.steps-steps.result c.in-Some.component ∷ []) c.steps-steps.result c.in-Some.component
      (match_some (LeavesOut c.args.rest.code.now c.args.rest.id.index c.args.field (abstract c.args.rest.value.now)) (λ w. WritesIt c.args.rest.code.now c.args.rest.id.index c.args.field (abstract c.args.rest.value.now) (abstract w.now)) c.in-Ok.written c.in-Some.component c.in-Ok.ensures.ok c.in-Some.is) c.steps-steps.ensures c.in_ok-add-in-Some.ensures refl;
}
