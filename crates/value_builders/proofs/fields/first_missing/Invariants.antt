use Rattle.std.proofs.Common.{map}
use Rattle.std.specs.Prelude.{option_map}
use Rattle.asn_base.specs.Abstract.{abstract}
use Rattle.asn_base.specs.Seen.{component_of}
use Rattle.value_builders.proofs.Setting.{MissingFrom}
use Rattle.value_builders.proofs.fields.first_missing.Given as goal

abbrev pub invariant-loop-i : goal.invariant-loop-i
invariant-loop-i l = MissingFrom (map component_of l.components) (map (option_map abstract) l.values) l.i
