use Rattle.std.proofs.Common.{arith, ◌≤◌, ◌<◌, ◌++◌, ◌∷◌, [], length, refl, sym, subst}
use Rattle.codec_code.specs.Routines.{routine_at, table_of}
use Rattle.codec_source.specs.declared.frame.Frame.{Frame}
use Rattle.codec_source.proofs.Running.{same_then, never_begun, called_before, goes_at, less_two, within_table}
use Rattle.codec_source.proofs.Halting.{none_begun_stops, called_stops_before, stops_at}
use Rattle.codec_source.proofs.machine.call_steps.Goals as goal

pub returns-in-Err-clause-err : goal.returns-in-Err-clause-err
returns-in-Err-clause-err g c = λ other. never_begun (routine_at c.args.code.now) g.S.Source.takes g.met.S.Source.lemma_one_answer c.args.id c.args.following.now c.args.frames.now.items c.args.source.now (c.in-Err.ensures.err other)

pub returns-in-Err-clause-stopped : goal.returns-in-Err-clause-stopped
returns-in-Err-clause-stopped g c = λ other. none_begun_stops (routine_at c.args.code.now) g.S.Source.takes (λ a q b. g.S.Source.refuses a q b c.in-Err.fault) c.args.id c.args.following.now c.args.frames.now.items c.args.source.now c.begin.new.self (c.in-Err.ensures.err other) (c.in-Err.ensures.left other)

pub returns-in-Ok-read_head-clause-ok : goal.returns-in-Ok-read_head-clause-ok
returns-in-Ok-read_head-clause-ok g c =
    let r = routine_at c.args.code.now in
    let mids = c.add.new.frames.items in
    let f : Frame = record { steps = c.in-Ok-read_head.left } in
    same_then
    (called_before r g.S.Source.takes g.met.S.Source.lemma_one_answer c.args.id c.args.following.now c.steps-steps.result.now c.args.frames.now.items mids _ c.args.source.now c.begin.new.self c.in_ok-add.ensures.ok refl c.steps-steps.ensures c.in-Ok.ensures.ok)
    (same_then (c.in-Ok-read_head.ensures.ok r mids) (goes_at r g.S.Source.takes g.met.S.Source.lemma_one_answer (mids ++ f ∷ []) mids f c.read_head.new.source refl))

pub returns-in-Ok-read_head-clause-less : goal.returns-in-Ok-read_head-clause-less
returns-in-Ok-read_head-clause-less g c =
    let l = length (table_of c.args.code.now) in
    let whole : length c.steps-steps.result.now ≤ l = subst (λ q. length q ≤ l) (sym c.steps-steps.ensures) (within_table c.args.code.now c.args.id.index) in
    let few = c.in-Ok-read_head.ensures.few in
    let child : length c.in-Ok-read_head.left.now ≤ l = omega (arith, whole, few) in
    let s = g.met.S.Source.spends c.args.source.now c.begin.new.self c.args.id c.in-Ok.ensures.ok in
    let k = c.in-Ok-read_head.ensures.budget in
    let lt : g.S.Source.budget c.read_head.new.source < g.S.Source.budget c.args.source.now = omega (arith, s, k) in
    less_two l (g.S.Source.budget c.args.source.now) (g.S.Source.budget c.read_head.new.source) (length c.args.following.now) c.args.frames.now.items c.add.new.frames.items _ _ lt c.in_ok-add.ensures.ok refl child

pub returns-in-Ok-read_head-clause-on : goal.returns-in-Ok-read_head-clause-on
returns-in-Ok-read_head-clause-on g c = λ e z s.
    let r = routine_at c.args.code.now in
    let mids = c.add.new.frames.items in
    let f : Frame = record { steps = c.in-Ok-read_head.left } in
    called_stops_before r g.S.Source.takes (λ a q b. g.S.Source.refuses a q b e) c.args.id c.args.following.now c.steps-steps.result.now c.args.frames.now.items mids _ c.args.source.now c.begin.new.self z c.in_ok-add.ensures.ok refl c.steps-steps.ensures c.in-Ok.ensures.ok
    (c.in-Ok-read_head.ensures.on r mids e z (stops_at r g.S.Source.takes (λ a q b. g.S.Source.refuses a q b e) (mids ++ f ∷ []) mids f c.read_head.new.source z refl s))

pub returns-in-Err-read_head-clause-err : goal.returns-in-Err-read_head-clause-err
returns-in-Err-read_head-clause-err g c = λ other z p.
    let r = routine_at c.args.code.now in
    c.in-Err-read_head.ensures.err other r c.add.new.frames.items z
    ((called_before r g.S.Source.takes g.met.S.Source.lemma_one_answer c.args.id c.args.following.now c.steps-steps.result.now c.args.frames.now.items c.add.new.frames.items _ c.args.source.now c.begin.new.self c.in_ok-add.ensures.ok refl c.steps-steps.ensures c.in-Ok.ensures.ok).to z p)

pub returns-in-Err-read_head-clause-stopped : goal.returns-in-Err-read_head-clause-stopped
returns-in-Err-read_head-clause-stopped g c = λ other.
    let r = routine_at c.args.code.now in
    called_stops_before r g.S.Source.takes (λ a q b. g.S.Source.refuses a q b c.in-Err-read_head.fault) c.args.id c.args.following.now c.steps-steps.result.now c.args.frames.now.items c.add.new.frames.items _ c.args.source.now c.begin.new.self c.read_head.new.source c.in_ok-add.ensures.ok refl c.steps-steps.ensures c.in-Ok.ensures.ok
    (c.in-Err-read_head.ensures.stopped other r c.add.new.frames.items)
