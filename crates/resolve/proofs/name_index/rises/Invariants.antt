use Rattle.std.proofs.Common.{◌≤◌}
use Rattle.type_table.specs.Seen.{kind_of}
use Rattle.resolve.specs.Listed.{listed_names}
use Rattle.resolve.specs.proving.Ordered.{RisesTo}
use Rattle.resolve.proofs.name_index.rises.Given as goal

abbrev pub invariant-loop-k : goal.invariant-loop-k
invariant-loop-k l = (1 ≤ l.k) × RisesTo (listed_names (kind_of l.shape)) l.order l.k
