use Rattle.std.proofs.Common.{◌<◌}
use Rattle.range_ends.specs.proving.Far.{AreFar}
use Rattle.range_ends.proofs.far.farthest.Given as goal

abbrev pub invariant-loop-round : goal.invariant-loop-round
invariant-loop-round l = record {
  many : l.round < l.steps;
  far : AreFar l.target l.steps l.far.items;
}
