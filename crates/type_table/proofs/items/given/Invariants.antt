use Rattle.std.proofs.Common.{◌≡◌, ◌++◌, map, drop}
use Rattle.trees.specs.Types.{item_of}
use Rattle.type_table.specs.Items.{given_numbers}
use Rattle.type_table.proofs.items.given.Given as goal

abbrev pub invariant-loop-item : goal.invariant-loop-item
invariant-loop-item l = l.numbers.items ++ given_numbers (map item_of (drop l.item-index l.items)) ≡ given_numbers (map item_of l.items)
