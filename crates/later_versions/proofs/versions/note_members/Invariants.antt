use Rattle.later_versions.specs.proving.Pairs.{pair_of}
use Rattle.later_versions.proofs.Pairing.{NotedTo}
use Rattle.later_versions.proofs.versions.note_members.Given as goal

abbrev pub invariant-loop-place : goal.invariant-loop-place
invariant-loop-place l = NotedTo l.first l.second l.fn.at (pair_of l.fn.pair) l.fn.pairs l.pairs l.place
