use Rattle.std.specs.Prelude.{length}
use Rattle.codec_code.specs.Routines.{routine_at, table_of}
use Rattle.codec_source.specs.proving.Frames.{weighs}
use Rattle.codec_source.specs.proving.Waiting.{and_next}
use Rattle.codec_source.proofs.Running.{same_then}
use Rattle.codec_source.proofs.Smalls.{on_turned, on_after, less_turned}
use Rattle.codec_source.proofs.machine.turn_at_once.Goals as goal

pub returns-in-Ok-turn_on-clause-ok : goal.returns-in-Ok-turn_on-clause-ok
returns-in-Ok-turn_on-clause-ok g c =
    same_then (on_turned (routine_at c.args.code.now) g.S.Source.takes g.met.S.Source.lemma_one_answer c.args.frames.now.items c.in-Ok.ensures.ok) c.in-Ok-turn_on.ensures.ok

pub returns-in-Ok-turn_on-clause-less : goal.returns-in-Ok-turn_on-clause-less
returns-in-Ok-turn_on-clause-less g c =
    less_turned (routine_at c.args.code.now) g.S.Source.takes g.S.Source.budget g.met.S.Source.spends g.met.S.Source.keeps (length (table_of c.args.code.now)) (weighs (length (table_of c.args.code.now)) (g.S.Source.budget c.turn_on.new.source) (and_next c.turn_on.new.frames.items c.in-Ok-turn_on.after)) c.args.frames.now.items c.args.frame c.in-Ok.next c.args.source.now c.read_next.new.source c.in-Ok.ensures.ok c.in-Ok-turn_on.ensures.less

pub returns-in-Ok-turn_on-clause-on : goal.returns-in-Ok-turn_on-clause-on
returns-in-Ok-turn_on-clause-on g c = λ e z s. on_after (routine_at c.args.code.now) g.S.Source.takes (λ a q b. g.S.Source.refuses a q b e) c.args.frames.now.items z c.in-Ok.ensures.ok (c.in-Ok-turn_on.ensures.on e z s)

pub returns-in-Err-turn_on-clause-err : goal.returns-in-Err-turn_on-clause-err
returns-in-Err-turn_on-clause-err g c = λ other z d. c.in-Err-turn_on.ensures.err other z ((on_turned (routine_at c.args.code.now) g.S.Source.takes g.met.S.Source.lemma_one_answer c.args.frames.now.items c.in-Ok.ensures.ok).to z d)

pub returns-in-Err-turn_on-clause-stopped : goal.returns-in-Err-turn_on-clause-stopped
returns-in-Err-turn_on-clause-stopped g c = λ other. on_after (routine_at c.args.code.now) g.S.Source.takes (λ a q b. g.S.Source.refuses a q b c.in-Err-turn_on.fault) c.args.frames.now.items c.turn_on.new.source c.in-Ok.ensures.ok (c.in-Err-turn_on.ensures.stopped other)
