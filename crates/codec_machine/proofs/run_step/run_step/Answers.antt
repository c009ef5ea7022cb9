use Rattle.std.proofs.Common.{rules, refl, [], ◌∷◌, ◌++◌}
use Rattle.asn_base.specs.Abstract.{abstract}
use Rattle.codec_machine.specs.declared.frame.Frame.TheVariants.{Routine}
use Rattle.codec_machine.proofs.Acting as r
use Rattle.codec_machine.proofs.run_step.run_step.Goals as goal

pub returns-in_ok-open-in-Head-clause-ok : goal.returns-in_ok-open-in-Head-clause-ok
returns-in_ok-open-in-Head-clause-ok g c =
    r.head_acted c.args.rest.code.now g.B.Backend.adds c.args.rest.id c.args.rest.steps c.args.rest.value c.args.frames.now.items
    (c.args.frames.now.items ++ Routine c.args.rest.id c.args.rest.steps c.args.rest.value ∷ []) c.args.backend.now c.open.new.self c.args.step c.in-Head.head
    c.in-Head.is c.in_ok-open-in-Head.ensures refl

pub returns-in_ok-close-in-End-clause-ok : goal.returns-in_ok-close-in-End-clause-ok
returns-in_ok-close-in-End-clause-ok g c =
    r.end_acted c.args.rest.code.now g.B.Backend.adds c.args.rest.id c.args.rest.steps c.args.rest.value c.args.frames.now.items
    (c.args.frames.now.items ++ Routine c.args.rest.id c.args.rest.steps c.args.rest.value ∷ []) c.args.backend.now c.close.new.self c.args.step
    c.in-End.is c.in_ok-close-in-End.ensures refl

pub returns-in-Rest-clause-ok : goal.returns-in-Rest-clause-ok
returns-in-Rest-clause-ok g c =
    r.rest_acted c.args.rest.code.now g.B.Backend.adds c.args.rest.id c.args.rest.steps c.args.rest.value c.args.frames.now.items
    (c.args.frames.now.items ++ Routine c.args.rest.id c.args.rest.steps c.args.rest.value ∷ []) c.args.backend.now c.args.backend.now c.args.step
    c.in-Rest.is (search rules) refl

pub returns-in-Ok-clause-ok : goal.returns-in-Ok-clause-ok
returns-in-Ok-clause-ok g c =
    r.leaf_acted c.args.rest.code.now g.B.Backend.adds c.args.rest.id c.args.rest.steps c.args.rest.value c.args.frames.now.items
    (c.args.frames.now.items ++ Routine c.args.rest.id c.args.rest.steps c.args.rest.value ∷ []) c.args.backend.now c.leaf.new.self c.args.step c.in-Leaf.kind
    c.in-Leaf.is c.in-Ok.ensures.ok refl

pub returns-in-Err-clause-refused : goal.returns-in-Err-clause-refused
returns-in-Err-clause-refused g c =
    r.leaf_emits_nothing c.args.rest.code.now c.args.rest.id.index c.args.rest.steps.now (abstract c.args.rest.value.now) c.args.step c.in-Leaf.kind c.in-Err.fault
    c.in-Leaf.is c.in-Err.ensures.not_of_type
