use Rattle.std.proofs.Common.{rules, ◌∷◌, [], sym}
use Rattle.codec_code.specs.declared.step.Step.TheVariants.{Head, Leaf, End}
use Rattle.codec_machine.specs.Frames.{ElementsEmit}
use Rattle.codec_machine.proofs.InPlace as r
use Rattle.codec_machine.proofs.in_place.whole_elements.Goals as goal

pub loop-first-preserved : goal.loop-first-preserved
loop-first-preserved g c =
    let s = c.args.code.now in
    let t = c.args.id in
    let adds = g.B.Backend.adds in
    let a = c.loop-first.backend in
    let b = c.whole.new.self in
    let ss = Head c.args.leaf.0 ∷ Leaf c.args.leaf.1 ∷ End ∷ [] in
    r.progress_more adds (search rules) (ElementsEmit s t.index c.args.values.now) (ElementsEmit s t.index c.loop-first.left.now) (ElementsEmit s t.index c.in-Some.others.now)
    c.args.backend.now a b c.loop-first.invariant
    (r.element_taken s adds t ss c.in-Some.first c.loop-first.left.now a b c.in-Some.others.now c.in-Some.ensures (sym c.requires.steps)
    (r.whole_progress c.in-Ok.ensures.ok))

pub returns-clause-ok : goal.returns-clause-ok
returns-clause-ok g c = r.elements_ended c.loop-first.left.now (search rules) c.loop-first.invariant

pub returns-in-Err-clause-refused : goal.returns-in-Err-clause-refused
returns-in-Err-clause-refused g c =
    let s = c.args.code.now in
    let ss = Head c.args.leaf.0 ∷ Leaf c.args.leaf.1 ∷ End ∷ [] in
    r.progress_refused c.loop-first.invariant
    (r.element_refused s g.B.Backend.adds c.args.id ss c.in-Some.first c.loop-first.left.now c.args.backend.now c.loop-first.backend c.in-Some.others.now c.in-Err.fault
    c.in-Some.ensures (sym c.requires.steps) (r.whole_refused c.in-Err.ensures.not_of_type))
