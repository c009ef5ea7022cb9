use Rattle.std.proofs.Common.{◌≡◌, None, length, map}
use Rattle.std.specs.Prelude.{option_map, replicate}
use Rattle.asn_base.specs.Abstract.{abstract}
use Rattle.value_builders.proofs.fields.absent.Given as goal

abbrev pub invariant-loop-i : goal.invariant-loop-i
invariant-loop-i l = (map (option_map abstract) l.values.items ≡ replicate l.i None) × (length l.values.items ≡ l.i)
