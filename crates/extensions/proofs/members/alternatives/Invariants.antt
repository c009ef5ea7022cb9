use Rattle.std.proofs.Common.{map, take}
use Rattle.asn_base.specs.Seen.{alternative_of}
use Rattle.settled.specs.schema_of.SchemaOf.{AreAlternativesOf}
use Rattle.type_table.specs.Seen.{part_of}
use Rattle.extensions.proofs.members.alternatives.Given as goal

abbrev pub invariant-loop-at : goal.invariant-loop-at
invariant-loop-at l =
    AreAlternativesOf (take l.at (map part_of l.parts)) (map alternative_of l.root.items) (map alternative_of l.additions.items)
