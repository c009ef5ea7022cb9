use Rattle.std.proofs.Common.{◌≡◌, ◌∙◌, sym, refl, subst, ℕ, List, Option, Bool}
use Rattle.std.specs.Prelude.{MatchOption}
use Rattle.input_lines.specs.Remaining.{remaining_of}
use Rattle.input_lines.specs.Lines.{HasNoLine, TakesLine}
use Rattle.check_jobs.specs.declared.inputs.Output.{Output}
use Rattle.sinks.specs.Sent.{state}
use Rattle.jobs.specs.Answers.{IsLineAnswer}
use Rattle.jobs.specs.Streams.{IsStopped, stream_of}
use Rattle.jobs.proofs.Streaming.{IsSoFar, begun, further, in_part, stopped}
use Rattle.jobs.proofs.streams.stream.Goals as goal

-- nothing went out so far
pub loop-init : goal.loop-init
loop-init g c = (
  begun (stream_of c.args.lines.now) (remaining_of g.R.Read.remaining c.args.input.now)
      (state (g.S.Sink.taken c.args.sink.now) (g.S.Sink.failed c.args.sink.now)),
  refl,
)

-- the input could not be read further
pub returns-in-Err-clause-stopped : goal.returns-in-Err-clause-stopped
returns-in-Err-clause-stopped g c = λ h.
    let m = stream_of c.args.lines.now in
    let i = remaining_of g.R.Read.remaining c.args.input.now in
    let j = remaining_of g.R.Read.remaining c.loop.input in
    let a = state (g.S.Sink.taken c.args.sink.now) (g.S.Sink.failed c.args.sink.now) in
    let b = state (g.S.Sink.taken c.loop.sink) (g.S.Sink.failed c.loop.sink) in
    stopped m i j c.loop.progress.sent c.loop.progress.yes a b c.in-Err.fault c.loop.invariant.0 c.in-Err.ensures.ends

-- the sink failed at this answer
pub returns-in-Err-send_answer-clause-device : goal.returns-in-Err-send_answer-clause-device
returns-in-Err-send_answer-clause-device g c = λ n e.
    let m = stream_of c.args.lines.now in
    let i = remaining_of g.R.Read.remaining c.args.input.now in
    let j = remaining_of g.R.Read.remaining c.loop.input in
    let a = state (g.S.Sink.taken c.args.sink.now) (g.S.Sink.failed c.args.sink.now) in
    let b = state (g.S.Sink.taken c.loop.sink) (g.S.Sink.failed c.loop.sink) in
    let k = remaining_of g.R.Read.remaining c.next_answer.new.input in
    let d = state (g.S.Sink.taken c.send_answer.new.sink) (g.S.Sink.failed c.send_answer.new.sink) in
    let o = c.in-Ok-Some.answer in
    let next = subst (λ (x : Option Output). MatchOption x (HasNoLine j) (λ y. (l : List ℕ) × TakesLine j k l
    × IsLineAnswer m.command m.program m.types m.ty l y.yes y.octets.items))
    c.in-Ok-Some.field-0-is c.in-Ok-Some.ensures.answer in
    let part = c.in-Err-send_answer.ensures.device n e in
    in_part m i j k c.loop.progress.sent n part.0 c.loop.progress.yes o.yes a b d next.0 o.octets.items
    c.loop.invariant.0 next.1 next.2 part.1 part.2

-- this answer was not begun
pub returns-in-Err-send_answer-clause-stopped : goal.returns-in-Err-send_answer-clause-stopped
returns-in-Err-send_answer-clause-stopped g c = λ h.
    let m = stream_of c.args.lines.now in
    let i = remaining_of g.R.Read.remaining c.args.input.now in
    let j = remaining_of g.R.Read.remaining c.loop.input in
    let a = state (g.S.Sink.taken c.args.sink.now) (g.S.Sink.failed c.args.sink.now) in
    let b = state (g.S.Sink.taken c.loop.sink) (g.S.Sink.failed c.loop.sink) in
    let ends = c.in-Err-send_answer.ensures.ends h in
    subst (λ q. IsStopped m i a (state (g.S.Sink.taken q) (g.S.Sink.failed q)) c.in-Err-send_answer.fault) (sym ends.1)
    (stopped m i j c.loop.progress.sent c.loop.progress.yes a b c.in-Err-send_answer.fault c.loop.invariant.0 ends.0)

-- one answer more went out
pub loop-preserved : goal.loop-preserved
loop-preserved g c =
    let m = stream_of c.args.lines.now in
    let i = remaining_of g.R.Read.remaining c.args.input.now in
    let j = remaining_of g.R.Read.remaining c.loop.input in
    let a = state (g.S.Sink.taken c.args.sink.now) (g.S.Sink.failed c.args.sink.now) in
    let b = state (g.S.Sink.taken c.loop.sink) (g.S.Sink.failed c.loop.sink) in
    let k = remaining_of g.R.Read.remaining c.next_answer.new.input in
    let d = state (g.S.Sink.taken c.send_answer.new.sink) (g.S.Sink.failed c.send_answer.new.sink) in
    let o = c.in-Ok-Some.answer in
    let next = subst (λ (x : Option Output). MatchOption x (HasNoLine j) (λ y. (l : List ℕ) × TakesLine j k l
    × IsLineAnswer m.command m.program m.types m.ty l y.yes y.octets.items))
    c.in-Ok-Some.field-0-is c.in-Ok-Some.ensures.answer in
    let sent = c.in-Ok.ensures.sent in (
      subst (λ (y : Bool). IsSoFar m i k c.in-Ok.progress.sent y a d) (sym c.in-Ok.ensures.yes)
          (further m i j k c.loop.progress.sent c.in-Ok.progress.sent c.loop.progress.yes o.yes a b d next.0 o.octets.items
          c.loop.invariant.0 next.1 next.2 sent c.in-Ok.ensures.count),
      sent.none_failed ∙ c.loop.invariant.1,
    )

-- there are too many lines
pub returns-clause-stopped : goal.returns-clause-stopped
returns-clause-stopped g c = λ h.
    let m = stream_of c.args.lines.now in
    let i = remaining_of g.R.Read.remaining c.args.input.now in
    let j = remaining_of g.R.Read.remaining c.loop.input in
    let a = state (g.S.Sink.taken c.args.sink.now) (g.S.Sink.failed c.args.sink.now) in
    let b = state (g.S.Sink.taken c.loop.sink) (g.S.Sink.failed c.loop.sink) in
    stopped m i j c.loop.progress.sent c.loop.progress.yes a b c.unread.result c.loop.invariant.0 c.unread.ensures
