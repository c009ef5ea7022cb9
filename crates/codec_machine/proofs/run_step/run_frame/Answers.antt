use Rattle.codec_machine.specs.declared.frame.Frame.TheVariants.{Routine, Elements as ElementsLeft, SortedElements as SortedLeft}
use Rattle.codec_machine.specs.Frames.{and_next}
use Rattle.codec_machine.proofs.Acting as r
use Rattle.codec_machine.proofs.run_step.run_frame.Goals as goal

pub returns-in-Ok-clause-ok : goal.returns-in-Ok-clause-ok
returns-in-Ok-clause-ok g c =
    r.routine_turned c.args.code.now g.B.Backend.adds c.args.frame c.in-Routine.id c.in-Routine.steps c.in-Routine.value
    c.args.frames.now.items (and_next c.run_routine.new.frames.items c.in-Ok.next) c.args.backend.now c.run_routine.new.backend
    c.in-Routine.is c.in-Ok.ensures.ok

pub returns-in-Err-clause-refused : goal.returns-in-Err-clause-refused
returns-in-Err-clause-refused g c =
    r.frame_emits_nothing c.args.code.now c.args.frame (Routine c.in-Routine.id c.in-Routine.steps c.in-Routine.value)
    c.args.frames.now.items c.in-Err.fault c.in-Routine.is c.in-Err.ensures.refused

pub returns-in-Ok-run_elements-clause-ok : goal.returns-in-Ok-run_elements-clause-ok
returns-in-Ok-run_elements-clause-ok g c =
    r.elements_turned c.args.code.now g.B.Backend.adds c.args.frame c.in-Elements.id c.in-Elements.values c.args.frames.now.items
    (and_next c.run_elements.new.frames.items c.in-Ok-run_elements.next) c.args.backend.now c.run_elements.new.backend c.in-Elements.is
    c.in-Ok-run_elements.ensures.ok

pub returns-in-Err-run_elements-clause-refused : goal.returns-in-Err-run_elements-clause-refused
returns-in-Err-run_elements-clause-refused g c =
    r.frame_emits_nothing c.args.code.now c.args.frame (ElementsLeft c.in-Elements.id c.in-Elements.values)
    c.args.frames.now.items c.in-Err-run_elements.fault c.in-Elements.is c.in-Err-run_elements.ensures.refused

pub returns-in-Ok-run_members-clause-ok : goal.returns-in-Ok-run_members-clause-ok
returns-in-Ok-run_members-clause-ok g c =
    r.members_turned c.args.code.now g.B.Backend.adds c.args.frame c.in-SortedElements.id c.in-SortedElements.values c.args.frames.now.items
    (and_next c.run_members.new.frames.items c.in-Ok-run_members.next) c.args.backend.now c.run_members.new.backend c.in-SortedElements.is
    c.in-Ok-run_members.ensures.ok

pub returns-in-Err-run_members-clause-refused : goal.returns-in-Err-run_members-clause-refused
returns-in-Err-run_members-clause-refused g c =
    r.frame_emits_nothing c.args.code.now c.args.frame (SortedLeft c.in-SortedElements.id c.in-SortedElements.values)
    c.args.frames.now.items c.in-Err-run_members.fault c.in-SortedElements.is c.in-Err-run_members.ensures.refused

pub returns-in_ok-part-in-MemberEnd-clause-ok : goal.returns-in_ok-part-in-MemberEnd-clause-ok
returns-in_ok-part-in-MemberEnd-clause-ok g c =
    r.part_turned c.args.code.now g.B.Backend.adds c.args.frame c.in-MemberEnd.rank c.args.frames.now.items c.args.backend.now c.part.new.self
    c.in-MemberEnd.is c.in_ok-part-in-MemberEnd.ensures

pub returns-in-Ok-whole-clause-ok : goal.returns-in-Ok-whole-clause-ok
returns-in-Ok-whole-clause-ok g c =
    r.whole_turned c.args.code.now g.B.Backend.adds c.args.frame c.in-Routine.id c.in-Routine.steps c.in-Routine.value
    c.in-Some.head c.in-Some.kind c.args.frames.now.items c.args.backend.now c.whole.new.self c.in-Routine.is
    c.in-Some.ensures.steps c.in-Ok-whole.ensures.ok

pub returns-in-Err-whole-clause-refused : goal.returns-in-Err-whole-clause-refused
returns-in-Err-whole-clause-refused g c =
    r.whole_emits_nothing c.args.code.now c.args.frame c.in-Routine.id c.in-Routine.steps c.in-Routine.value c.in-Some.head
    c.in-Some.kind c.args.frames.now.items c.in-Err-whole.fault c.in-Routine.is c.in-Some.ensures.steps
    c.in-Err-whole.ensures.not_of_type
