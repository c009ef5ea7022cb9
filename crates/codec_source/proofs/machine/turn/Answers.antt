use Rattle.std.specs.Prelude.{length}
use Rattle.codec_code.specs.Routines.{routine_at, table_of}
use Rattle.codec_source.specs.declared.frame.Frame.{Frame}
use Rattle.codec_source.specs.proving.Frames.{weighs}
use Rattle.codec_source.specs.proving.Waiting.{and_next}
use Rattle.codec_source.proofs.Running.{same_then, within_table}
use Rattle.codec_source.proofs.Smalls.{on_turned, on_after, less_turned}
use Rattle.codec_source.proofs.Rows.{into_turned, into_stops, into_less}
use Rattle.codec_source.proofs.machine.turn.Goals as goal

pub returns-in_ok-add-in-Ok-Some-clause-ok : goal.returns-in_ok-add-in-Ok-Some-clause-ok
returns-in_ok-add-in-Ok-Some-clause-ok g c =
    let v = rw c.in-Ok-Some.field-0-is at c.in-Ok-Some.ensures.ok in
    let f : Frame = record { steps = c.in-Ok-Some.left } in
    into_turned (routine_at c.args.code.now) g.S.Source.takes g.met.S.Source.lemma_one_answer c.args.frames.now.items c.add.new.frames.items c.args.frame f c.args.source.now c.read_rows.new.source v c.in_ok-add-in-Ok-Some.ensures.ok

pub returns-in_ok-add-in-Ok-Some-clause-less : goal.returns-in_ok-add-in-Ok-Some-clause-less
returns-in_ok-add-in-Ok-Some-clause-less g c =
    let v = rw c.in-Ok-Some.field-0-is at c.in-Ok-Some.ensures.ok in
    let f : Frame = record { steps = c.in-Ok-Some.left } in
    into_less (routine_at c.args.code.now) g.S.Source.takes g.S.Source.budget g.met.S.Source.spends g.met.S.Source.keeps (length (table_of c.args.code.now)) c.args.frames.now.items c.add.new.frames.items c.args.frame f c.args.source.now c.read_rows.new.source (within_table c.args.code.now) v c.in_ok-add-in-Ok-Some.ensures.ok

pub returns-in_ok-add-in-Ok-Some-clause-on : goal.returns-in_ok-add-in-Ok-Some-clause-on
returns-in_ok-add-in-Ok-Some-clause-on g c = λ e z s.
    let v = rw c.in-Ok-Some.field-0-is at c.in-Ok-Some.ensures.ok in
    let f : Frame = record { steps = c.in-Ok-Some.left } in
    into_stops (routine_at c.args.code.now) g.S.Source.takes (λ a q b. g.S.Source.refuses a q b e) c.args.frames.now.items c.add.new.frames.items c.args.frame f c.args.source.now c.read_rows.new.source z v c.in_ok-add-in-Ok-Some.ensures.ok s

pub returns-in-Ok-clause-ok : goal.returns-in-Ok-clause-ok
returns-in-Ok-clause-ok g c =
    let v = rw c.in-Ok-None.field-0-is at c.in-Ok-None.ensures.ok in
    same_then (on_turned (routine_at c.args.code.now) g.S.Source.takes g.met.S.Source.lemma_one_answer c.args.frames.now.items v) c.in-Ok.ensures.ok

pub returns-in-Ok-clause-less : goal.returns-in-Ok-clause-less
returns-in-Ok-clause-less g c =
    let v = rw c.in-Ok-None.field-0-is at c.in-Ok-None.ensures.ok in
    less_turned (routine_at c.args.code.now) g.S.Source.takes g.S.Source.budget g.met.S.Source.spends g.met.S.Source.keeps (length (table_of c.args.code.now)) (weighs (length (table_of c.args.code.now)) (g.S.Source.budget c.turn_at_once.new.source) (and_next c.turn_at_once.new.frames.items c.in-Ok.after)) c.args.frames.now.items c.args.frame c.args.frame c.args.source.now c.read_rows.new.source v c.in-Ok.ensures.less

pub returns-in-Ok-clause-on : goal.returns-in-Ok-clause-on
returns-in-Ok-clause-on g c = λ e z s.
    let v = rw c.in-Ok-None.field-0-is at c.in-Ok-None.ensures.ok in
    on_after (routine_at c.args.code.now) g.S.Source.takes (λ a q b. g.S.Source.refuses a q b e) c.args.frames.now.items z v (c.in-Ok.ensures.on e z s)

pub returns-in-Err-turn_at_once-clause-err : goal.returns-in-Err-turn_at_once-clause-err
returns-in-Err-turn_at_once-clause-err g c = λ other z d.
    let v = rw c.in-Ok-None.field-0-is at c.in-Ok-None.ensures.ok in
    c.in-Err-turn_at_once.ensures.err other z ((on_turned (routine_at c.args.code.now) g.S.Source.takes g.met.S.Source.lemma_one_answer c.args.frames.now.items v).to z d)

pub returns-in-Err-turn_at_once-clause-stopped : goal.returns-in-Err-turn_at_once-clause-stopped
returns-in-Err-turn_at_once-clause-stopped g c = λ other.
    let v = rw c.in-Ok-None.field-0-is at c.in-Ok-None.ensures.ok in
    on_after (routine_at c.args.code.now) g.S.Source.takes (λ a q b. g.S.Source.refuses a q b c.in-Err-turn_at_once.fault) c.args.frames.now.items c.turn_at_once.new.source v (c.in-Err-turn_at_once.ensures.stopped other)
