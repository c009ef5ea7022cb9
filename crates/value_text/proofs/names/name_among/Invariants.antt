use Rattle.std.proofs.Common.{◌≡◌, drop, map}
use Rattle.asn_base.specs.Seen.{item_of}
use Rattle.value_text.specs.Print.{name_with}
use Rattle.value_text.proofs.names.name_among.Given as goal

abbrev pub invariant-loop-i : goal.invariant-loop-i
invariant-loop-i l = name_with (map item_of l.items) l.number ≡ name_with (map item_of (drop l.i l.items)) l.number
