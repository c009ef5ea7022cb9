use Rattle.std.proofs.Common.{◌≡◌, ◌+◌, ◌++◌, ◌≤◌, ◌^◌, length, map, drop}
use Rattle.trees.specs.Types.{item_of}
use Rattle.type_table.specs.Items.{additions_from}
use Rattle.type_table.specs.Lists.{AreWithinLimit}
use Rattle.type_table.proofs.items.with_additions.Given as goal

abbrev pub invariant-loop-i : goal.invariant-loop-i
invariant-loop-i l = record {
  numbers :
      l.numbers.items ++ additions_from l.fn.root.items l.next (map item_of (drop l.i l.items))
      ≡ l.fn.root.items ++ additions_from l.fn.root.items 0 (map item_of l.items);
  long : length l.numbers.items ≡ length l.fn.root.items + l.i;
  within : AreWithinLimit l.numbers.items;
  small : l.next ≤ 2 ^ 127;
}
