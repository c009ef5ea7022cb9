use Rattle.typed_values.specs.Known.{AreKnown}
use Rattle.std.proofs.Common.{map}
use Rattle.type_table.specs.Seen.{part_of}
use Rattle.extensions.specs.proving.Tables.{defaults_seen}
use Rattle.extensions.proofs.Each.{DefaultsUpTo}
use Rattle.extensions.proofs.defaults.defaults_in.Given as goal

abbrev pub invariant-loop-at : goal.invariant-loop-at
invariant-loop-at l = DefaultsUpTo l.builder.bounded.now.program l.within (map part_of l.components) l.at (defaults_seen l.values.items) × AreKnown l.builder.bounded.now.program l.defaults
