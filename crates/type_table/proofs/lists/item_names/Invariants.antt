use Rattle.std.proofs.Common.{◌+◌, ◌++◌, length, map}
use Rattle.trees.specs.Types.{item_of}
use Rattle.type_table.specs.Items.{WrittenItem}
use Rattle.type_table.specs.proving.Checks.{texts}
use Rattle.type_table.proofs.Fronts.{Kept}
use Rattle.type_table.proofs.lists.item_names.Given as goal

abbrev pub invariant-loop-item : goal.invariant-loop-item
invariant-loop-item l = Kept (texts l.fn.names.keys ++ map (λ (i : WrittenItem). i.0) (map item_of l.items)) (texts l.names.keys) (length (texts l.fn.names.keys) + l.item-index)
