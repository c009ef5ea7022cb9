use Rattle.std.proofs.Common.{◌≡◌, map, take}
use Rattle.std.specs.Prelude.{option_map}
use Rattle.asn_base.specs.Abstract.{abstract}
use Rattle.extensions.proofs.equal.+equal.Given as goal

abbrev pub invariant-are_equal_fields-loop-i : goal.invariant-are_equal_fields-loop-i
invariant-are_equal_fields-loop-i l = map (option_map abstract) (take l.i l.first) ≡ map (option_map abstract) (take l.i l.second)

abbrev pub invariant-are_equal_lists-loop-i : goal.invariant-are_equal_lists-loop-i
invariant-are_equal_lists-loop-i l = map abstract (take l.i l.first) ≡ map abstract (take l.i l.second)
