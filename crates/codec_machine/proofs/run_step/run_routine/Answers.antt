use Rattle.std.proofs.Common.{rules, ◌++◌, ◌∷◌, []}
use Rattle.asn_base.specs.Abstract.{abstract}
use Rattle.codec_machine.proofs.InPlace as r
use Rattle.codec_machine.proofs.run_step.run_routine.Goals as goal

pub returns-in-Ok-run_step-clause-ok : goal.returns-in-Ok-run_step-clause-ok
returns-in-Ok-run_step-clause-ok g c =
    r.steps_acted c.args.rest.code.now g.B.Backend.adds c.args.rest.id.index (abstract c.args.rest.value.now) c.args.rest.steps.now c.in-Ok.left.now
    (search rules) c.in-Some.step c.in-Some.steps.now c.args.frames.now.items (c.run_step.new.frames.items ++ c.in-Ok-run_step.next ∷ [])
    c.args.backend.now c.take_steps.new.backend c.run_step.new.backend c.in-Some.ensures c.in-Ok.ensures.fewer c.in-Ok.ensures.ok
    c.in-Ok-run_step.ensures.ok

pub returns-in-None-clause-ok : goal.returns-in-None-clause-ok
returns-in-None-clause-ok g c =
    r.steps_done c.args.rest.code.now g.B.Backend.adds c.args.rest.id.index (abstract c.args.rest.value.now) c.args.rest.steps.now c.in-Ok.left.now
    c.args.frames.now.items c.args.backend.now c.take_steps.new.backend c.in-None.ensures c.in-Ok.ensures.ok

pub returns-in-Err-run_step-clause-refused : goal.returns-in-Err-run_step-clause-refused
returns-in-Err-run_step-clause-refused g c =
    r.steps_refused c.args.rest.code.now g.B.Backend.adds c.args.rest.id.index (abstract c.args.rest.value.now) c.args.rest.steps.now c.in-Ok.left.now
    c.in-Some.step c.in-Some.steps.now c.args.backend.now c.take_steps.new.backend c.in-Err-run_step.fault c.in-Some.ensures c.in-Ok.ensures.ok
    c.in-Err-run_step.ensures.refused
