use Rattle.std.proofs.Common.{refl, ap, sym, ◌∙◌, [], ◌∷◌, ◌++◌}
use Rattle.codec_machine.specs.declared.frame.Frame.TheVariants.{Routine}
use Rattle.std.specs.Prelude.{slice_get}
use Rattle.codec_machine.proofs.Inversion.{of_pick, same_number}
use Rattle.codec_machine.proofs.Replacing as r
use Rattle.codec_machine.proofs.push.push_choice.Goals as goal

pub returns-in-Err-clause-refused : goal.returns-in-Err-clause-refused
returns-in-Err-clause-refused c = λ e es d. (let p = of_pick d in c.in-Err.ensures.refused p.number p.chosen p.is p.few)

pub returns-in-Err-called-clause-refused : goal.returns-in-Err-called-clause-refused
returns-in-Err-called-clause-refused c =
    λ e es d.
    (let p = of_pick d in
    c.in-Err-called.ensures.refused p.type (ap (slice_get c.args.rest.steps.now) (same_number (sym c.in-Ok.ensures.ok.1 ∙ p.is)) ∙ p.call))

pub returns-clause-ok : goal.returns-clause-ok
returns-clause-ok c =
    r.choice_in c.args.rest.code.now c.args.rest.id c.args.frames.now.items c.args.rest.steps c.args.rest.value c.args.alternatives c.in-Ok.found.0
    c.in-Ok-called.of c.steps_after.result c.steps-steps.result c.in-Ok.found.1 c.add.new.frames.items
    (c.add.new.frames.items ++ Routine c.in-Ok-called.of c.steps-steps.result c.in-Ok.found.1 ∷ []) c.in-Ok.ensures.ok.0
    c.in-Ok.ensures.ok.1 c.in-Ok-called.ensures.ok c.steps_after.ensures.steps_after c.steps_after.ensures.few c.steps-steps.ensures c.in_ok-add.ensures
    refl
