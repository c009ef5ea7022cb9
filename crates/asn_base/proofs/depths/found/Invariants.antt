use Rattle.std.specs.Prelude.{IsSome}
use Rattle.asn_base.specs.Depths.{AreKnown}
use Rattle.asn_base.proofs.depths.found.Given as goal

abbrev pub invariant-loop-levels : goal.invariant-loop-levels
invariant-loop-levels l = AreKnown l.schema l.levels l.table × IsSome l.table
