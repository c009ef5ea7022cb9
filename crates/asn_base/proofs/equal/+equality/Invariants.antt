use Rattle.std.proofs.Common.{map}
use Rattle.std.specs.Prelude.{option_map}
use Rattle.asn_base.specs.Abstract.{abstract}
use Rattle.asn_base.proofs.Equals.{OptionsFrom, ValuesFrom}
use Rattle.asn_base.proofs.equal.+equality.Given as goal

abbrev pub invariant-equal_fields-loop-i : goal.invariant-equal_fields-loop-i
invariant-equal_fields-loop-i l = OptionsFrom (map (option_map abstract) l.first) (map (option_map abstract) l.second) l.i

abbrev pub invariant-equal_lists-loop-i : goal.invariant-equal_lists-loop-i
invariant-equal_lists-loop-i l = ValuesFrom (map abstract l.first) (map abstract l.second) l.i
