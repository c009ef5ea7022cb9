use Rattle.std.proofs.Common.{rules, arith, ◌≡◌, ◌∷◌, [], ap, subst, length, map}
use Rattle.std.proofs.lemmas.Bool.Decides.{nat_tests}
use Rattle.asn_base.specs.Abstract.{abstract, row_of_list}
use Rattle.codec_code.specs.Steps.{Steps}
use Rattle.codec_machine.specs.declared.frame.Frame.TheVariants.{Routine, Elements as ElementsLeft}
use Rattle.codec_machine.specs.Frames.{ElementsEmit, Progress, elements_weight}
use Rattle.codec_machine.specs.Weights.{total, weights}
use Rattle.codec_machine.proofs.InPlace as r
use Rattle.codec_machine.proofs.in_place.take_elements.Goals as goal

pub loop-first-preserved : goal.loop-first-preserved
loop-first-preserved g c =
    let s = c.args.code.now in
    let t = c.args.id in
    let adds = g.B.Backend.adds in
    let w = abstract c.in-Some.first.now in
    let a = c.loop-first.backend in
    let b = c.take_element.new.backend in
    let z : length c.in-Ok.rest.now ≡ 0 = (let d = c.if-not-is_empty.ensures in grind (arith, nat_tests)) in
    let e = ap (λ q. weights (total s) (row_of_list (map abstract q))) c.in-Some.ensures in (
      r.progress_more adds (search rules) (ElementsEmit s t.index c.args.values.now) (ElementsEmit s t.index c.loop-first.left.now) (ElementsEmit s t.index c.in-Some.others.now)
          c.args.backend.now a b c.loop-first.invariant.0
          (r.element_taken s adds t c.args.steps.now c.in-Some.first c.loop-first.left.now a b c.in-Some.others.now c.in-Some.ensures c.requires
          (subst (λ q. Progress adds (Steps s t.index c.args.steps.now w) a (Steps s t.index q w) b) (r.no_steps c.in-Ok.rest.now z) c.in-Ok.ensures.ok)),
      omega (arith, e, c.loop-first.invariant.1),
    )

pub returns-then-not-is_empty-clause-ok : goal.returns-then-not-is_empty-clause-ok
returns-then-not-is_empty-clause-ok g c =
    let s = c.args.code.now in
    let t = c.args.id in
    let adds = g.B.Backend.adds in
    r.progress_acted adds (search rules) s (ElementsEmit s t.index c.args.values.now) (ElementsEmit s t.index c.loop-first.left.now)
    (elements_weight (total s) c.args.values.now) (elements_weight (total s) c.loop-first.left.now) []
    (ElementsLeft t c.in-Some.others ∷ Routine t c.in-Ok.rest c.in-Some.first ∷ [])
    c.args.backend.now c.loop-first.backend c.take_element.new.backend c.loop-first.invariant.1 c.loop-first.invariant.0
    (r.element_stopped s adds t c.args.steps.now c.in-Some.first c.loop-first.left.now c.loop-first.backend c.take_element.new.backend c.in-Some.others c.in-Ok.rest
    c.in-Some.ensures c.requires c.in-Ok.ensures.fewer c.in-Ok.ensures.ok)

pub returns-clause-ok : goal.returns-clause-ok
returns-clause-ok g c =
    let s = c.args.code.now in
    r.progress_done s (ElementsEmit s c.args.id.index c.args.values.now) (elements_weight (total s) c.args.values.now) [] c.args.backend.now c.loop-first.backend
    (omega arith) (r.elements_ended c.loop-first.left.now (search rules) c.loop-first.invariant.0)

pub returns-in-Err-clause-refused : goal.returns-in-Err-clause-refused
returns-in-Err-clause-refused g c =
    let s = c.args.code.now in
    r.progress_refused c.loop-first.invariant.0
    (r.element_refused s g.B.Backend.adds c.args.id c.args.steps.now c.in-Some.first c.loop-first.left.now c.args.backend.now c.loop-first.backend c.in-Some.others.now c.in-Err.fault
    c.in-Some.ensures c.requires c.in-Err.ensures.refused)
