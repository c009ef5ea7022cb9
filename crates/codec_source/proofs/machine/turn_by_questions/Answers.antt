use Rattle.std.proofs.Common.{arith, ◌<◌, ◌++◌, ◌∷◌, [], length, refl, sym, ap, subst}
use Rattle.std.specs.Prelude.{Some, None}
use Rattle.codec_code.specs.Routines.{routine_at, table_of}
use Rattle.codec_source.specs.Events.{ends}
use Rattle.codec_source.specs.Reading.{Asks}
use Rattle.codec_source.specs.Stopping.{AsksNothing, asked}
use Rattle.codec_source.proofs.Asking.{shorter, no_more_budget}
use Rattle.codec_source.proofs.Running.{same_then, asked_before, goes_at, ended_before, never_ended, never_asked, less_ended, less_one, less_called}
use Rattle.codec_source.proofs.Halting.{asked_stops, before_none, nothing_asked, none_ended, ended_stops, stops_at}
use Rattle.codec_source.proofs.machine.turn_by_questions.Goals as goal

pub ask-requires : goal.ask-requires
ask-requires g c = c.in-Some.ensures.cases.0

pub returns-in-Err-ask-clause-err : goal.returns-in-Err-ask-clause-err
returns-in-Err-ask-clause-err g c = λ other.
    let some : 0 < length c.args.frame.steps.now = (let e = ap length c.in-Some.ensures.cases.0 in omega (arith, e)) in
    never_asked (routine_at c.args.code.now) g.S.Source.takes g.met.S.Source.lemma_one_answer c.args.frame.steps.now c.args.frames.now.items c.args.source.now some
    (subst (λ q. AsksNothing g.S.Source.takes q c.args.source.now) (sym c.in-Some.ensures.cases.0) (c.in-Err-ask.ensures.err other))

pub returns-in-Ok-clause-ok : goal.returns-in-Ok-clause-ok
returns-in-Ok-clause-ok g c = ended_before (routine_at c.args.code.now) g.S.Source.takes g.met.S.Source.lemma_one_answer c.args.frame.steps.now c.args.frames.now.items c.args.source.now c.end.new.self c.in-None.ensures.cases c.in-Ok.ensures.ok

pub returns-in-Ok-clause-less : goal.returns-in-Ok-clause-less
returns-in-Ok-clause-less g c = less_ended (length (table_of c.args.code.now)) (g.S.Source.budget c.args.source.now) (g.S.Source.budget c.end.new.self) c.args.frames.now.items c.args.frame (g.met.S.Source.keeps c.args.source.now c.end.new.self ends c.in-Ok.ensures.ok)

pub returns-in-Err-clause-err : goal.returns-in-Err-clause-err
returns-in-Err-clause-err g c = λ other. never_ended (routine_at c.args.code.now) g.S.Source.takes g.met.S.Source.lemma_one_answer c.args.frame.steps.now c.args.frames.now.items c.args.source.now c.in-None.ensures.cases (c.in-Err.ensures.err other)

pub returns-in-None-value-clause-ok : goal.returns-in-None-value-clause-ok
returns-in-None-value-clause-ok g c =
    let r = routine_at c.args.code.now in
    let b = c.in-Ok-ask.answer.following.now in
    let a : Asks g.S.Source.takes c.args.frame.steps.now c.args.source.now b None c.ask.new.source =
    subst (λ t. Asks g.S.Source.takes c.args.frame.steps.now c.args.source.now b t c.ask.new.source) c.in-None-value.is
    (subst (λ q. Asks g.S.Source.takes q c.args.source.now b c.in-Ok-ask.answer.value c.ask.new.source) (sym c.in-Some.ensures.cases.0) c.in-Ok-ask.ensures.ok) in
    same_then
    (asked_before r g.S.Source.takes g.met.S.Source.lemma_one_answer c.args.frame.steps.now b None c.args.frames.now.items c.args.source.now c.ask.new.source a)
    (goes_at r g.S.Source.takes g.met.S.Source.lemma_one_answer _ c.args.frames.now.items (record { steps = c.in-Ok-ask.answer.following }) c.ask.new.source refl)

pub returns-in-None-value-clause-less : goal.returns-in-None-value-clause-less
returns-in-None-value-clause-less g c =
    let b = c.in-Ok-ask.answer.following.now in
    let a : Asks g.S.Source.takes c.args.frame.steps.now c.args.source.now b None c.ask.new.source =
    subst (λ t. Asks g.S.Source.takes c.args.frame.steps.now c.args.source.now b t c.ask.new.source) c.in-None-value.is
    (subst (λ q. Asks g.S.Source.takes q c.args.source.now b c.in-Ok-ask.answer.value c.ask.new.source) (sym c.in-Some.ensures.cases.0) c.in-Ok-ask.ensures.ok) in
    less_one (length (table_of c.args.code.now)) (g.S.Source.budget c.args.source.now) (g.S.Source.budget c.ask.new.source) c.args.frames.now.items c.args.frame (record { steps = c.in-Ok-ask.answer.following })
    (no_more_budget g.S.Source.takes g.S.Source.budget g.met.S.Source.keeps a) (shorter g.S.Source.takes a)

pub returns-in-Ok-call-clause-ok : goal.returns-in-Ok-call-clause-ok
returns-in-Ok-call-clause-ok g c =
    let b = c.in-Ok-ask.answer.following.now in
    let a : Asks g.S.Source.takes c.args.frame.steps.now c.args.source.now b (Some c.in-Some-value.id) c.ask.new.source =
    subst (λ t. Asks g.S.Source.takes c.args.frame.steps.now c.args.source.now b t c.ask.new.source) c.in-Some-value.is
    (subst (λ q. Asks g.S.Source.takes q c.args.source.now b c.in-Ok-ask.answer.value c.ask.new.source) (sym c.in-Some.ensures.cases.0) c.in-Ok-ask.ensures.ok) in
    same_then (asked_before (routine_at c.args.code.now) g.S.Source.takes g.met.S.Source.lemma_one_answer c.args.frame.steps.now b (Some c.in-Some-value.id) c.args.frames.now.items c.args.source.now c.ask.new.source a) c.in-Ok-call.ensures.ok

pub returns-in-Ok-call-clause-less : goal.returns-in-Ok-call-clause-less
returns-in-Ok-call-clause-less g c =
    let b = c.in-Ok-ask.answer.following.now in
    let a : Asks g.S.Source.takes c.args.frame.steps.now c.args.source.now b (Some c.in-Some-value.id) c.ask.new.source =
    subst (λ t. Asks g.S.Source.takes c.args.frame.steps.now c.args.source.now b t c.ask.new.source) c.in-Some-value.is
    (subst (λ q. Asks g.S.Source.takes q c.args.source.now b c.in-Ok-ask.answer.value c.ask.new.source) (sym c.in-Some.ensures.cases.0) c.in-Ok-ask.ensures.ok) in
    less_called (length (table_of c.args.code.now)) (g.S.Source.budget c.args.source.now) (g.S.Source.budget c.ask.new.source) (g.S.Source.budget c.call.new.source) (length b) c.args.frames.now.items (c.call.new.frames.items ++ c.in-Ok-call.next ∷ []) c.args.frame c.in-Ok-call.ensures.less
    (no_more_budget g.S.Source.takes g.S.Source.budget g.met.S.Source.keeps a) (shorter g.S.Source.takes a)

pub returns-in-Err-call-clause-err : goal.returns-in-Err-call-clause-err
returns-in-Err-call-clause-err g c =
    let b = c.in-Ok-ask.answer.following.now in
    let a : Asks g.S.Source.takes c.args.frame.steps.now c.args.source.now b (Some c.in-Some-value.id) c.ask.new.source =
    subst (λ t. Asks g.S.Source.takes c.args.frame.steps.now c.args.source.now b t c.ask.new.source) c.in-Some-value.is
    (subst (λ q. Asks g.S.Source.takes q c.args.source.now b c.in-Ok-ask.answer.value c.ask.new.source) (sym c.in-Some.ensures.cases.0) c.in-Ok-ask.ensures.ok) in
    λ other z d. c.in-Err-call.ensures.err other z ((asked_before (routine_at c.args.code.now) g.S.Source.takes g.met.S.Source.lemma_one_answer c.args.frame.steps.now b (Some c.in-Some-value.id) c.args.frames.now.items c.args.source.now c.ask.new.source a).to z d)

pub returns-in-Ok-clause-on : goal.returns-in-Ok-clause-on
returns-in-Ok-clause-on g c e z s = ended_stops (routine_at c.args.code.now) g.S.Source.takes (λ a q b. g.S.Source.refuses a q b e) c.args.frame.steps.now c.args.frames.now.items c.args.source.now c.end.new.self z c.in-None.ensures.cases c.in-Ok.ensures.ok s

pub returns-in-Err-clause-stopped : goal.returns-in-Err-clause-stopped
returns-in-Err-clause-stopped g c = λ other. none_ended (routine_at c.args.code.now) g.S.Source.takes (λ a q b. g.S.Source.refuses a q b c.in-Err.fault) c.args.frame.steps.now c.args.frames.now.items c.args.source.now c.end.new.self c.in-None.ensures.cases (c.in-Err.ensures.err other) (c.in-Err.ensures.left other)

pub returns-in-Err-ask-clause-stopped : goal.returns-in-Err-ask-clause-stopped
returns-in-Err-ask-clause-stopped g c = λ other.
    let some : 0 < length c.args.frame.steps.now = (let e = ap length c.in-Some.ensures.cases.0 in omega (arith, e)) in
    nothing_asked (routine_at c.args.code.now) g.S.Source.takes (λ a q b. g.S.Source.refuses a q b c.in-Err-ask.fault) c.args.frame.steps.now c.args.frames.now.items c.args.source.now c.ask.new.source some
    (subst (λ q. AsksNothing g.S.Source.takes q c.args.source.now) (sym c.in-Some.ensures.cases.0) (c.in-Err-ask.ensures.err other))
    (subst (λ q. g.S.Source.refuses c.args.source.now (asked q) c.ask.new.source c.in-Err-ask.fault) (sym c.in-Some.ensures.cases.0) (c.in-Err-ask.ensures.left other))

pub returns-in-None-value-clause-on : goal.returns-in-None-value-clause-on
returns-in-None-value-clause-on g c =
    let r = routine_at c.args.code.now in
    let b = c.in-Ok-ask.answer.following.now in
    let a : Asks g.S.Source.takes c.args.frame.steps.now c.args.source.now b None c.ask.new.source =
    subst (λ t. Asks g.S.Source.takes c.args.frame.steps.now c.args.source.now b t c.ask.new.source) c.in-None-value.is
    (subst (λ q. Asks g.S.Source.takes q c.args.source.now b c.in-Ok-ask.answer.value c.ask.new.source) (sym c.in-Some.ensures.cases.0) c.in-Ok-ask.ensures.ok) in
    λ e z s. asked_stops r g.S.Source.takes (λ a q b. g.S.Source.refuses a q b e) c.args.frame.steps.now b None c.args.frames.now.items c.args.source.now c.ask.new.source z a
    (before_none r g.S.Source.takes (λ a q b. g.S.Source.refuses a q b e) b c.args.frames.now.items c.ask.new.source z (stops_at r g.S.Source.takes (λ a q b. g.S.Source.refuses a q b e) _ c.args.frames.now.items (record { steps = c.in-Ok-ask.answer.following }) c.ask.new.source z refl s))

pub returns-in-Ok-call-clause-on : goal.returns-in-Ok-call-clause-on
returns-in-Ok-call-clause-on g c =
    let b = c.in-Ok-ask.answer.following.now in
    let a : Asks g.S.Source.takes c.args.frame.steps.now c.args.source.now b (Some c.in-Some-value.id) c.ask.new.source =
    subst (λ t. Asks g.S.Source.takes c.args.frame.steps.now c.args.source.now b t c.ask.new.source) c.in-Some-value.is
    (subst (λ q. Asks g.S.Source.takes q c.args.source.now b c.in-Ok-ask.answer.value c.ask.new.source) (sym c.in-Some.ensures.cases.0) c.in-Ok-ask.ensures.ok) in
    λ e z s. asked_stops (routine_at c.args.code.now) g.S.Source.takes (λ a q b. g.S.Source.refuses a q b e) c.args.frame.steps.now b (Some c.in-Some-value.id) c.args.frames.now.items c.args.source.now c.ask.new.source z a (c.in-Ok-call.ensures.on e z s)

pub returns-in-Err-call-clause-stopped : goal.returns-in-Err-call-clause-stopped
returns-in-Err-call-clause-stopped g c =
    let b = c.in-Ok-ask.answer.following.now in
    let a : Asks g.S.Source.takes c.args.frame.steps.now c.args.source.now b (Some c.in-Some-value.id) c.ask.new.source =
    subst (λ t. Asks g.S.Source.takes c.args.frame.steps.now c.args.source.now b t c.ask.new.source) c.in-Some-value.is
    (subst (λ q. Asks g.S.Source.takes q c.args.source.now b c.in-Ok-ask.answer.value c.ask.new.source) (sym c.in-Some.ensures.cases.0) c.in-Ok-ask.ensures.ok) in
    λ other. asked_stops (routine_at c.args.code.now) g.S.Source.takes (λ a q b. g.S.Source.refuses a q b c.in-Err-call.fault) c.args.frame.steps.now b (Some c.in-Some-value.id) c.args.frames.now.items c.args.source.now c.ask.new.source c.call.new.source a (c.in-Err-call.ensures.stopped other)
