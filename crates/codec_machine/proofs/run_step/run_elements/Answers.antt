use Rattle.std.proofs.Common.{arith, refl, sym, ap, subst, ◌∙◌, ◌++◌, ◌∷◌, [], append_assoc, append-nil}
use Rattle.codec_machine.specs.Frames.{Acted, ElementsEmit, elements_weight, paired}
use Rattle.codec_machine.specs.Weights.{total}
use Rattle.codec_machine.proofs.InPlace as r
use Rattle.codec_machine.proofs.run_step.run_elements.Goals as goal

pub whole_elements-requires : goal.whole_elements-requires
whole_elements-requires g c = λ k. ((refl, tt), (sym c.steps-steps.ensures ∙ c.in-Some.ensures.steps, c.in-Some.ensures.row))

pub returns-in-Ok-clause-ok : goal.returns-in-Ok-clause-ok
returns-in-Ok-clause-ok g c =
    r.progress_done c.args.code.now (ElementsEmit c.args.code.now c.args.id.index c.args.values.now)
    (elements_weight (total c.args.code.now) c.args.values.now) c.args.frames.now.items c.args.backend.now c.whole_elements.new.backend
    (omega arith) c.in-Ok.ensures.ok

pub returns-in_ok-add-in-Some-left-clause-ok : goal.returns-in_ok-add-in-Some-left-clause-ok
returns-in_ok-add-in-Some-left-clause-ok g c =
    let s = c.args.code.now in
    let T = ElementsEmit s c.args.id.index c.args.values.now in
    let w = elements_weight (total s) c.args.values.now in
    r.acted_over s T w c.args.frames.now.items (c.in-Some-left.others ∷ c.in-Some-left.next ∷ []) (c.add.new.frames.items ++ c.in-Some-left.next ∷ [])
    c.args.backend.now c.take_elements.new.backend
    (ap (λ q. q ++ c.in-Some-left.next ∷ []) c.in_ok-add-in-Some-left.ensures ∙ append_assoc c.args.frames.now.items (c.in-Some-left.others ∷ []) (c.in-Some-left.next ∷ []))
    (subst (λ q. Acted s g.B.Backend.adds T w [] c.args.backend.now (paired q) c.take_elements.new.backend) c.in-Some-left.is c.in-Ok-take_elements.ensures.ok)

pub returns-in-None-left-clause-ok : goal.returns-in-None-left-clause-ok
returns-in-None-left-clause-ok g c =
    let s = c.args.code.now in
    let T = ElementsEmit s c.args.id.index c.args.values.now in
    let w = elements_weight (total s) c.args.values.now in
    r.acted_over s T w c.args.frames.now.items [] c.args.frames.now.items
    c.args.backend.now c.take_elements.new.backend
    (sym (append-nil c.args.frames.now.items))
    (subst (λ q. Acted s g.B.Backend.adds T w [] c.args.backend.now (paired q) c.take_elements.new.backend) c.in-None-left.is c.in-Ok-take_elements.ensures.ok)
