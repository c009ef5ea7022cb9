use Rattle.std.proofs.Common.{◌≡◌, ◌-◌, length}
use Rattle.sinks.proofs.Going.{Gone}
use Rattle.sinks.proofs.send.send_all.Given as goal

abbrev pub invariant-loop-at : goal.invariant-loop-at
invariant-loop-at g l = Gone (g.S.Sink.taken l.fn.sink) (g.S.Sink.taken l.sink) l.octets l.at × (g.S.Sink.failed l.sink ≡ g.S.Sink.failed l.fn.sink)

abbrev pub decreases-loop-at : goal.decreases-loop-at
decreases-loop-at g l = length l.octets - l.at
