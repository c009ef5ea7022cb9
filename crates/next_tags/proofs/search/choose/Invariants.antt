use Rattle.std.proofs.Common.{length}
use Rattle.next_tags.proofs.Finding.{Searched}
use Rattle.next_tags.proofs.search.choose.Given as goal

abbrev pub invariant-loop-step : goal.invariant-loop-step
invariant-loop-step l = Searched l.code l.tag l.calls l.index l.rest

abbrev pub decreases-loop-step : goal.decreases-loop-step
decreases-loop-step l = length l.rest
