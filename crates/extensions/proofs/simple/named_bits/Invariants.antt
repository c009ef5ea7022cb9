use Rattle.std.proofs.Common.{◌≡◌, map, take}
use Rattle.asn_base.specs.Seen.{named_bit_of}
use Rattle.settled.specs.schema_of.SchemaOf.{schema_bit}
use Rattle.trees.specs.Types.{bit_of}
use Rattle.extensions.proofs.simple.named_bits.Given as goal

abbrev pub invariant-loop-at : goal.invariant-loop-at
invariant-loop-at l = map named_bit_of l.all.items ≡ map schema_bit (take l.at (map bit_of l.bits))
