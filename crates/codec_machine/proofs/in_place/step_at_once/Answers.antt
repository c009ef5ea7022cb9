use Rattle.std.proofs.Common.{rules, sym, subst, ◌≡◌}
use Rattle.std.specs.Prelude.{MatchBool}
use Rattle.asn_base.specs.Abstract.{abstract}
use Rattle.codec_code.specs.declared.step.Step.TheVariants.{Field}
use Rattle.codec_machine.specs.Frames.{StepTaken}
use Rattle.codec_machine.proofs.InPlace as r
use Rattle.codec_machine.proofs.in_place.step_at_once.Goals as goal

pub returns-in-Ok-clause-ok : goal.returns-in-Ok-clause-ok
returns-in-Ok-clause-ok g c =
    subst (λ q. MatchBool c.in-Ok.taken
    (StepTaken c.args.code.now g.B.Backend.adds c.args.id.index q (abstract c.args.value.now) c.args.backend.now c.field_at_once.new.backend)
    (c.field_at_once.new.backend ≡ c.args.backend.now)) (sym c.in-Field.is) c.in-Ok.ensures.ok

pub returns-in-Err-clause-refused : goal.returns-in-Err-clause-refused
returns-in-Err-clause-refused g c = r.step_refused c.args.step (Field c.in-Field.field) c.in-Field.is c.in-Err.ensures.refused

pub returns-in_ok-open-in-Head-clause-ok : goal.returns-in_ok-open-in-Head-clause-ok
returns-in_ok-open-in-Head-clause-ok g c =
    r.head_taken c.args.code.now g.B.Backend.adds c.args.id.index (abstract c.args.value.now) c.args.backend.now c.open.new.self c.args.step
    c.in-Head.head c.in-Head.is c.in_ok-open-in-Head.ensures

pub returns-in_ok-close-in-End-clause-ok : goal.returns-in_ok-close-in-End-clause-ok
returns-in_ok-close-in-End-clause-ok g c =
    r.end_taken c.args.code.now g.B.Backend.adds c.args.id.index (abstract c.args.value.now) c.args.backend.now c.close.new.self c.args.step
    c.in-End.is c.in_ok-close-in-End.ensures

pub returns-in-Rest-clause-ok : goal.returns-in-Rest-clause-ok
returns-in-Rest-clause-ok g c =
    r.rest_taken c.args.code.now g.B.Backend.adds c.args.id.index (abstract c.args.value.now) c.args.backend.now c.args.backend.now c.args.step
    c.in-Rest.is (search rules)

pub returns-in-Ok-leaf-clause-ok : goal.returns-in-Ok-leaf-clause-ok
returns-in-Ok-leaf-clause-ok g c =
    r.leaf_taken c.args.code.now g.B.Backend.adds c.args.id.index (abstract c.args.value.now) c.args.backend.now c.leaf.new.self c.args.step
    c.in-Leaf.kind c.in-Leaf.is c.in-Ok-leaf.ensures.ok

pub returns-in-Err-leaf-clause-refused : goal.returns-in-Err-leaf-clause-refused
returns-in-Err-leaf-clause-refused g c = r.leaf_refused c.args.step c.in-Leaf.kind c.in-Leaf.is c.in-Err-leaf.ensures.not_of_type
