use Rattle.std.proofs.Common.{rules, arith, refl, sym, ◌∙◌, []}
use Rattle.codec_machine.specs.Frames.{MembersEmit, elements_weight}
use Rattle.codec_machine.specs.Weights.{total}
use Rattle.codec_machine.proofs.InPlace as r
use Rattle.codec_machine.proofs.run_step.run_members.Goals as goal

pub whole_members-requires : goal.whole_members-requires
whole_members-requires g c = λ k. ((refl, tt), (sym c.steps.ensures ∙ c.in-Some.ensures.steps, c.in-Some.ensures.row))

pub returns-in-Ok-clause-ok : goal.returns-in-Ok-clause-ok
returns-in-Ok-clause-ok g c =
    r.progress_done c.args.code.now (MembersEmit c.args.code.now c.args.id.index c.args.values.now)
    (elements_weight (total c.args.code.now) c.args.values.now) c.args.frames.now.items c.args.backend.now c.whole_members.new.backend
    (omega arith) c.in-Ok.ensures.ok

pub returns-in_ok-next-in-None-clause-ok : goal.returns-in_ok-next-in-None-clause-ok
returns-in_ok-next-in-None-clause-ok g c = record { events = []; added = (search rules); replaced = c.in_ok-next-in-None.ensures }
