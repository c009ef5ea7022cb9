use Rattle.std.proofs.Common.{length}
use Rattle.ber_source.proofs.Going.{IsPassing}
use Rattle.ber_source.proofs.passing.pass.Given as goal

abbrev pub invariant-loop-found : goal.invariant-loop-found
invariant-loop-found g l = IsPassing g.T.TokenSink.suits g.T.TokenSink.tokens l.steps l.extensible l.fn.place l.place

abbrev pub decreases-loop-found : goal.decreases-loop-found
decreases-loop-found g l = length l.place.here.octets.now
