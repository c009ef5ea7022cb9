use Rattle.std.proofs.Common.{◌≡◌, ◌+◌, ◌≤◌, drop, map}
use Rattle.trees.specs.Modules.{assignment_tree_of as given_of}
use Rattle.names.specs.Modules.{type_count, value_count}
use Rattle.names.proofs.counts.count.Given as goal

abbrev pub invariant-loop-given : goal.invariant-loop-given
invariant-loop-given l =
    record {
      types :
          l.counts.types + type_count (map given_of (drop l.given-index l.givens))
          ≡ l.fn.counts.types + type_count (map given_of l.fn.givens);
      values :
          l.counts.values + value_count (map given_of (drop l.given-index l.givens))
          ≡ l.fn.counts.values + value_count (map given_of l.fn.givens);
      few_types : l.counts.types ≤ 4096;
      few_values : l.counts.values ≤ 65536;
    }
