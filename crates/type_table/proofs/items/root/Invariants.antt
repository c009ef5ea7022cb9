use Rattle.std.proofs.Common.{◌≡◌, ◌++◌, ◌≤◌, ◌*◌, ◌^◌, map, drop}
use Rattle.trees.specs.Types.{item_of}
use Rattle.type_table.specs.Items.{given_numbers, root_from, root_numbers}
use Rattle.type_table.specs.Lists.{AreWithinLimit}
use Rattle.type_table.proofs.items.root.Given as goal

abbrev pub invariant-loop-item : goal.invariant-loop-item
invariant-loop-item l = record {
  numbers :
      l.numbers.items ++ root_from (given_numbers (map item_of l.items)) l.next
      (map item_of (drop l.item-index l.items)) ≡ root_numbers (map item_of l.items);
  within : AreWithinLimit l.numbers.items;
  small : l.next ≤ l.item-index * 2 ^ 64;
}
