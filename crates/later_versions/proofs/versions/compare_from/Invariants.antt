use Rattle.later_versions.specs.proving.Pairs.{AreKnown, IsSoFar, met}
use Rattle.later_versions.proofs.Tracking.{IsTracked}
use Rattle.later_versions.proofs.versions.compare_from.Given as goal

abbrev pub invariant-loop-at : goal.invariant-loop-at
invariant-loop-at l =
    AreKnown l.pairs
    × IsSoFar l.first l.fn.start.first.index l.second l.fn.start.second.index (met l.pairs) l.at
    × IsTracked l.first l.fn.start.first.index l.second l.fn.start.second.index l.pairs.list.items l.at
