use Rattle.std.proofs.Common.{◌-◌}
use Rattle.type_table.specs.Seen.{kind_of}
use Rattle.resolve.specs.Listed.{listed_names}
use Rattle.resolve.proofs.Orders.{IsBetween}
use Rattle.resolve.proofs.named_shape.place_in_order.Given as goal

abbrev pub invariant-loop-low : goal.invariant-loop-low
invariant-loop-low l = IsBetween (listed_names (kind_of l.shape)) l.order l.name l.low l.high

abbrev pub decreases-loop-low : goal.decreases-loop-low
decreases-loop-low l = l.high - l.low
