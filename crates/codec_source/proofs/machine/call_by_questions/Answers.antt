use Rattle.std.proofs.Common.{arith, ◌<◌, ◌++◌, ◌∷◌, [], length, refl, sym}
use Rattle.codec_code.specs.Routines.{routine_at, table_of}
use Rattle.codec_source.specs.declared.frame.Frame.{Frame}
use Rattle.codec_source.proofs.Running.{same_then, never_begun, called_before, less_whole}
use Rattle.codec_source.proofs.Halting.{none_begun_stops, called_stops_before}
use Rattle.codec_source.proofs.machine.call_by_questions.Goals as goal

pub returns-in-Err-clause-err : goal.returns-in-Err-clause-err
returns-in-Err-clause-err g c = λ other. never_begun (routine_at c.args.code.now) g.S.Source.takes g.met.S.Source.lemma_one_answer c.args.id c.args.following.now c.args.frames.now.items c.args.source.now (c.in-Err.ensures.err other)

pub returns-in-Err-clause-stopped : goal.returns-in-Err-clause-stopped
returns-in-Err-clause-stopped g c = λ other. none_begun_stops (routine_at c.args.code.now) g.S.Source.takes (λ a q b. g.S.Source.refuses a q b c.in-Err.fault) c.args.id c.args.following.now c.args.frames.now.items c.args.source.now c.begin.new.self (c.in-Err.ensures.err other) (c.in-Err.ensures.left other)

pub returns-in-Ok-read_whole-clause-ok : goal.returns-in-Ok-read_whole-clause-ok
returns-in-Ok-read_whole-clause-ok g c =
    let r = routine_at c.args.code.now in
    let f : Frame = record { steps = c.args.following } in
    let mids = c.args.frames.now.items ++ f ∷ [] in
    same_then
    (called_before r g.S.Source.takes g.met.S.Source.lemma_one_answer c.args.id c.args.following.now _ c.args.frames.now.items mids f c.args.source.now c.begin.new.self refl refl (sym c.in-Some.ensures) c.in-Ok.ensures.ok)
    (c.in-Ok-read_whole.ensures.ok r mids)

pub returns-in-Ok-read_whole-clause-less : goal.returns-in-Ok-read_whole-clause-less
returns-in-Ok-read_whole-clause-less g c =
    let s = g.met.S.Source.spends c.args.source.now c.begin.new.self c.args.id c.in-Ok.ensures.ok in
    let k = c.in-Ok-read_whole.ensures.budget in
    let lt : g.S.Source.budget c.read_whole.new.source < g.S.Source.budget c.args.source.now = omega (arith, s, k) in
    less_whole (length (table_of c.args.code.now)) (g.S.Source.budget c.args.source.now) (g.S.Source.budget c.read_whole.new.source) (length c.args.following.now) c.args.frames.now.items (record { steps = c.args.following }) lt refl

pub returns-in-Ok-read_whole-clause-on : goal.returns-in-Ok-read_whole-clause-on
returns-in-Ok-read_whole-clause-on g c = λ e z s.
    let r = routine_at c.args.code.now in
    let f : Frame = record { steps = c.args.following } in
    let mids = c.args.frames.now.items ++ f ∷ [] in
    called_stops_before r g.S.Source.takes (λ a q b. g.S.Source.refuses a q b e) c.args.id c.args.following.now _ c.args.frames.now.items mids f c.args.source.now c.begin.new.self z refl refl (sym c.in-Some.ensures) c.in-Ok.ensures.ok
    (c.in-Ok-read_whole.ensures.on r mids e z s)

pub returns-in-Err-read_whole-clause-err : goal.returns-in-Err-read_whole-clause-err
returns-in-Err-read_whole-clause-err g c = λ other z p.
    let r = routine_at c.args.code.now in
    let f : Frame = record { steps = c.args.following } in
    let mids = c.args.frames.now.items ++ f ∷ [] in
    c.in-Err-read_whole.ensures.err other r mids z
    ((called_before r g.S.Source.takes g.met.S.Source.lemma_one_answer c.args.id c.args.following.now _ c.args.frames.now.items mids f c.args.source.now c.begin.new.self refl refl (sym c.in-Some.ensures) c.in-Ok.ensures.ok).to z p)

pub returns-in-Err-read_whole-clause-stopped : goal.returns-in-Err-read_whole-clause-stopped
returns-in-Err-read_whole-clause-stopped g c = λ other.
    let r = routine_at c.args.code.now in
    let f : Frame = record { steps = c.args.following } in
    let mids = c.args.frames.now.items ++ f ∷ [] in
    called_stops_before r g.S.Source.takes (λ a q b. g.S.Source.refuses a q b c.in-Err-read_whole.fault) c.args.id c.args.following.now _ c.args.frames.now.items mids f c.args.source.now c.begin.new.self c.read_whole.new.source refl refl (sym c.in-Some.ensures) c.in-Ok.ensures.ok
    (c.in-Err-read_whole.ensures.stopped other r mids)
