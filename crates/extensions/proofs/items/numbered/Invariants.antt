use Rattle.std.proofs.Common.{◌≡◌, map, take, drop}
use Rattle.asn_base.specs.Seen.{item_of}
use Rattle.trees.specs.Types as trees
use Rattle.extensions.specs.proving.Items.{with_numbers}
use Rattle.extensions.proofs.items.numbered.Given as goal

abbrev pub invariant-loop-at : goal.invariant-loop-at
invariant-loop-at l = map item_of l.all.items ≡ with_numbers (take l.at (map trees.item_of l.written)) (drop l.from l.numbers)
