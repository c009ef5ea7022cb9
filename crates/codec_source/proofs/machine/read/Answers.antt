use Rattle.std.proofs.Common.{◌≡◌, ◌++◌, ◌∷◌, [], refl, sym, ap, subst}
use Rattle.codec_code.specs.Routines.{routine_at}
use Rattle.codec_source.specs.declared.frame.Frame.{Frame}
use Rattle.codec_source.specs.proving.Frames.{IsUnderWay}
use Rattle.codec_source.specs.proving.Waiting.{and_next}
use Rattle.codec_source.proofs.Running.{same_self, started, turned_same, read_all, read_only, read_none, none_begun, none_next}
use Rattle.codec_source.proofs.Halting.{stops_with, started_stops}
use Rattle.codec_source.specs.Stopping.{not_begun}
use Rattle.codec_source.proofs.machine.read.Goals as goal

pub loop-next-init : goal.loop-next-init
loop-next-init g c = (record { same = same_self; stops = λ e z s. s }, λ e. c.new-frames.ensures.items)

pub returns-in-Err-clause-stopped : goal.returns-in-Err-clause-stopped
returns-in-Err-clause-stopped g c = λ other. not_begun (c.in-Err.ensures.err other) (c.in-Err.ensures.left other)

pub returns-in-Err-clause-err : goal.returns-in-Err-clause-err
returns-in-Err-clause-err g c = λ other. none_begun (routine_at c.args.code.now) g.S.Source.takes g.met.S.Source.lemma_one_answer c.args.id c.args.source.now (c.in-Err.ensures.err other)

pub loop-next-preserved : goal.loop-next-preserved
loop-next-preserved g c =
    let r = routine_at c.args.code.now in
    let first : Frame = record { steps = c.steps-steps.result } in
    let start = c.new-frames.result.items ++ first ∷ [] in
    let fs = and_next c.loop-next.frames.items c.loop-next.next in
    let e : fs ≡ c.loop-next.frames.items ++ c.in-Some.frame ∷ [] = ap (and_next c.loop-next.frames.items) c.in-Some.is in
    let news = and_next c.turn.new.frames.items c.in-Ok-turn.after in
    let on : IsUnderWay r g.S.Source.takes g.S.Source.refuses start c.begin.new.self news c.turn.new.source = record {
      same = turned_same r g.S.Source.takes g.met.S.Source.lemma_one_answer start fs news c.loop-next.frames.items c.in-Some.frame c.begin.new.self c.loop-next.source c.turn.new.source c.loop-next.invariant.0.same e c.in-Ok-turn.ensures.ok;
      stops = λ f z s. c.loop-next.invariant.0.stops f z (stops_with r g.S.Source.takes (λ a q b. g.S.Source.refuses a q b f) fs c.loop-next.frames.items c.in-Some.frame c.loop-next.source z e (c.in-Ok-turn.ensures.on f z s));
    } in (
      subst (λ q. IsUnderWay r g.S.Source.takes g.S.Source.refuses start c.begin.new.self q c.turn.new.source) (sym c.next_of-next.ensures.same) on,
      c.next_of-next.ensures.last,
    )

pub returns-in-Err-turn-clause-stopped : goal.returns-in-Err-turn-clause-stopped
returns-in-Err-turn-clause-stopped g c = λ other.
    let r = routine_at c.args.code.now in
    let first : Frame = record { steps = c.steps-steps.result } in
    let f = c.in-Err-turn.fault in
    let fs = and_next c.loop-next.frames.items c.loop-next.next in
    let e : fs ≡ c.loop-next.frames.items ++ c.in-Some.frame ∷ [] = ap (and_next c.loop-next.frames.items) c.in-Some.is in
    let s = stops_with r g.S.Source.takes (λ a q b. g.S.Source.refuses a q b f) fs c.loop-next.frames.items c.in-Some.frame c.loop-next.source c.turn.new.source e (c.in-Err-turn.ensures.stopped other) in
    started_stops r g.S.Source.takes (λ a q b. g.S.Source.refuses a q b f) c.args.id first c.new-frames.result.items (c.new-frames.result.items ++ first ∷ []) c.args.source.now c.begin.new.self c.turn.new.source c.new-frames.ensures.items refl c.steps-steps.ensures c.in-Ok.ensures.ok (c.loop-next.invariant.0.stops f c.turn.new.source s)

pub returns-in-Err-turn-clause-err : goal.returns-in-Err-turn-clause-err
returns-in-Err-turn-clause-err g c = λ other.
    let r = routine_at c.args.code.now in
    let first : Frame = record { steps = c.steps-steps.result } in
    let start = c.new-frames.result.items ++ first ∷ [] in
    let fs = and_next c.loop-next.frames.items c.loop-next.next in
    let e : fs ≡ c.loop-next.frames.items ++ c.in-Some.frame ∷ [] = ap (and_next c.loop-next.frames.items) c.in-Some.is in
    let s = started r g.S.Source.takes g.met.S.Source.lemma_one_answer c.args.id first c.new-frames.result.items start c.args.source.now c.begin.new.self c.new-frames.ensures.items refl c.steps-steps.ensures c.in-Ok.ensures.ok in
    read_none r g.S.Source.takes g.met.S.Source.lemma_one_answer c.args.id start fs c.loop-next.frames.items c.in-Some.frame c.args.source.now c.begin.new.self c.loop-next.source s c.loop-next.invariant.0.same e (c.in-Err-turn.ensures.err other)

pub returns-clause-ok : goal.returns-clause-ok
returns-clause-ok g c =
    let r = routine_at c.args.code.now in
    let first : Frame = record { steps = c.steps-steps.result } in
    let start = c.new-frames.result.items ++ first ∷ [] in
    let s = started r g.S.Source.takes g.met.S.Source.lemma_one_answer c.args.id first c.new-frames.result.items start c.args.source.now c.begin.new.self c.new-frames.ensures.items refl c.steps-steps.ensures c.in-Ok.ensures.ok in
    let empty = none_next c.loop-next.frames.items c.loop-next.next c.in_default.not-Some c.loop-next.invariant.1 in
    read_all r g.S.Source.takes g.met.S.Source.lemma_one_answer c.args.id start (and_next c.loop-next.frames.items c.loop-next.next) c.args.source.now c.begin.new.self c.loop-next.source s c.loop-next.invariant.0.same empty

pub returns-clause-only : goal.returns-clause-only
returns-clause-only g c =
    let r = routine_at c.args.code.now in
    let first : Frame = record { steps = c.steps-steps.result } in
    let start = c.new-frames.result.items ++ first ∷ [] in
    let s = started r g.S.Source.takes g.met.S.Source.lemma_one_answer c.args.id first c.new-frames.result.items start c.args.source.now c.begin.new.self c.new-frames.ensures.items refl c.steps-steps.ensures c.in-Ok.ensures.ok in
    let empty = none_next c.loop-next.frames.items c.loop-next.next c.in_default.not-Some c.loop-next.invariant.1 in
    read_only r g.S.Source.takes g.met.S.Source.lemma_one_answer c.args.id start (and_next c.loop-next.frames.items c.loop-next.next) c.args.source.now c.begin.new.self c.loop-next.source s c.loop-next.invariant.0.same empty
