use Rattle.std.proofs.Common.{rules, ap, subst, sym, ◌++◌, ◌∷◌, []}
use Rattle.codec_machine.specs.Frames.{Reached, and_next}
use Rattle.codec_machine.specs.declared.frame.Frame.TheVariants.{Routine}
use Rattle.codec_machine.proofs.Acting as r
use Rattle.codec_machine.proofs.machine.run.Goals as goal

pub loop-next-preserved : goal.loop-next-preserved
loop-next-preserved g c =
    let s = c.args.code.now in
    let start = c.new-frames.result.items ++ Routine c.args.id c.steps-steps.result c.args.value ∷ [] in
    let more = r.reached_more s g.B.Backend.adds (search rules) start _ (and_next c.loop-next.frames.items c.loop-next.next)
    (and_next c.run_frame.new.frames.items c.in-Ok.after) c.args.backend.now c.loop-next.backend c.run_frame.new.backend
    (ap (and_next c.loop-next.frames.items) c.in-Some.is) c.loop-next.invariant.0 c.in-Ok.ensures.ok in (
      subst (λ q. Reached s g.B.Backend.adds start c.args.backend.now q c.run_frame.new.backend) (sym c.next_of-next.ensures.same) more,
      c.next_of-next.ensures.last,
    )

pub returns-clause-ok : goal.returns-clause-ok
returns-clause-ok g c =
    r.reached_ran c.args.code.now g.B.Backend.adds c.args.id c.steps-steps.result c.args.value _
    (and_next c.loop-next.frames.items c.loop-next.next) c.args.backend.now c.loop-next.backend c.steps-steps.ensures
    (ap (λ q. q ++ Routine c.args.id c.steps-steps.result c.args.value ∷ []) c.new-frames.ensures.items)
    (r.none_next c.loop-next.frames.items c.loop-next.next c.in_default.not-Some c.loop-next.invariant.1) c.loop-next.invariant.0

pub returns-in-Err-clause-refused : goal.returns-in-Err-clause-refused
returns-in-Err-clause-refused g c =
    r.reached_emits_nothing c.args.code.now g.B.Backend.adds c.args.id c.steps-steps.result c.args.value _
    (and_next c.loop-next.frames.items c.loop-next.next) _ c.args.backend.now c.loop-next.backend c.in-Err.fault c.steps-steps.ensures
    (ap (λ q. q ++ Routine c.args.id c.steps-steps.result c.args.value ∷ []) c.new-frames.ensures.items)
    (ap (and_next c.loop-next.frames.items) c.in-Some.is) c.loop-next.invariant.0 c.in-Err.ensures.refused
