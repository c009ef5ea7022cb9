use Rattle.std.proofs.Common.{ℕ, ◌<◌}
use Rattle.asn_base.specs.Depths.{row_at, rows_of}
use Rattle.asn_base.specs.proving.Reaching.{RowReaches}
use Rattle.asn_base.proofs.circle.first_back.Given as goal

abbrev pub invariant-loop-i : goal.invariant-loop-i
invariant-loop-i l = (k : ℕ) → k < l.i → RowReaches (rows_of l.rows) (row_at (rows_of l.defaults) k) k → ⊥
