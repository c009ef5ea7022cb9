use Rattle.std.proofs.Common.{map, option_map, take}
use Rattle.extensions.specs.proving.Tables.{shared_seen}
use Rattle.asn_base.specs.Seen.{component_of}
use Rattle.resolve.specs.Program.{Program}
use Rattle.settled.specs.schema_of.SchemaOf.{AreComponentsOf}
use Rattle.trees.specs.Values.{Name}
use Rattle.type_table.specs.Seen.{part_of}
use Rattle.extensions.specs.proving.Defaults.{AreDefaultsOf}
use Rattle.extensions.proofs.members.components.Given as goal

abbrev pub invariant-loop-at : goal.invariant-loop-at
invariant-loop-at l = (p : Program) (M : Name) →
    AreDefaultsOf p M (map part_of l.parts) (map (option_map shared_seen) l.defaults) →
    AreComponentsOf p M (take l.at (map part_of l.parts)) (map component_of l.all.items)
