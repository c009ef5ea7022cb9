use Rattle.typed_values.specs.Known.{AreKnown}
use Rattle.extensions.specs.proving.Tables.{AreTabled, table_seen}
use Rattle.extensions.proofs.defaults.all_defaults.Given as goal

abbrev pub invariant-loop-ty : goal.invariant-loop-ty
invariant-loop-ty l = AreTabled l.bounded.program l.ty (table_seen l.table.items) × AreKnown l.bounded.program l.defaults
