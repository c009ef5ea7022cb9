use Rattle.std.proofs.Common.{drop, map}
use Rattle.asn_base.specs.Seen.{item_of}
use Rattle.asn_base.specs.Typed.{HasNumber}
use Rattle.packed_leaves.proofs.item.looked_for.Given as goal

abbrev pub invariant-loop-i : goal.invariant-loop-i
invariant-loop-i l = HasNumber (map item_of l.items) l.number → HasNumber (drop l.i (map item_of l.items)) l.number
