use Rattle.std.proofs.Common.{◌≡◌, ◌+◌, ◌≤◌, drop, map}
use Rattle.trees.specs.Modules.{module_tree_of}
use Rattle.names.specs.Modules.{type_count, value_count, all_assignments}
use Rattle.names.proofs.counts.count_all.Given as goal

abbrev pub invariant-loop-given : goal.invariant-loop-given
invariant-loop-given l =
    record {
      types :
          l.counts.types + type_count (all_assignments (map module_tree_of (drop l.given-index l.modules)))
          ≡ type_count (all_assignments (map module_tree_of l.fn.modules));
      values :
          l.counts.values + value_count (all_assignments (map module_tree_of (drop l.given-index l.modules)))
          ≡ value_count (all_assignments (map module_tree_of l.fn.modules));
      few_types : l.counts.types ≤ 4096;
      few_values : l.counts.values ≤ 65536;
    }
