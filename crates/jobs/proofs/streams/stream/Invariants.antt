-- How far the stream is.
use Rattle.input_lines.specs.Remaining.{remaining_of}
use Rattle.sinks.specs.Sent.{state}
use Rattle.jobs.specs.Streams.{stream_of}
use Rattle.jobs.proofs.Streaming.{IsSoFar}
use Rattle.std.proofs.Common.{◌≡◌}
use Rattle.jobs.proofs.streams.stream.Given as goal

abbrev pub invariant-loop : goal.invariant-loop
invariant-loop g l =
    IsSoFar (stream_of l.lines) (remaining_of g.R.Read.remaining l.fn.input) (remaining_of g.R.Read.remaining l.input)
    l.progress.sent l.progress.yes
    (state (g.S.Sink.taken l.fn.sink) (g.S.Sink.failed l.fn.sink)) (state (g.S.Sink.taken l.sink) (g.S.Sink.failed l.sink))
    × (g.S.Sink.failed l.sink ≡ g.S.Sink.failed l.fn.sink)
