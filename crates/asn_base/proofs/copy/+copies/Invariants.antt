use Rattle.std.proofs.Common.{◌≡◌, map, take}
use Rattle.std.specs.Prelude.{option_map}
use Rattle.asn_base.specs.Abstract.{abstract}
use Rattle.asn_base.proofs.copy.+copies.Given as goal

abbrev pub invariant-copied_fields-loop-i : goal.invariant-copied_fields-loop-i
invariant-copied_fields-loop-i l = map (option_map abstract) l.copies.items ≡ take l.i (map (option_map abstract) l.values)

abbrev pub invariant-copied_list-loop-i : goal.invariant-copied_list-loop-i
invariant-copied_list-loop-i l = map abstract l.copies.items ≡ take l.i (map abstract l.values)
