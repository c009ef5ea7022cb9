use Rattle.std.proofs.Common.{◌≡◌, None, map, take}
use Rattle.asn_base.specs.Seen.{item_of}
use Rattle.value_builders.specs.Named.{number_of}
use Rattle.value_builders.proofs.names.number_among.Given as goal

abbrev pub invariant-loop-item : goal.invariant-loop-item
invariant-loop-item l = number_of (take l.item-index (map item_of l.items)) l.name ≡ None
