use Rattle.std.proofs.Common.{ℕ, ◌<◌, ◌≤◌}
use Rattle.asn_base.specs.Depths.{in_row, row_at, rows_of}
use Rattle.asn_base.proofs.depths.is_above.Given as goal

abbrev pub invariant-loop-i : goal.invariant-loop-i
invariant-loop-i l = (t : ℕ) → t < l.i → (j : ℕ) → in_row (row_at (rows_of l.rows) t) j ≤ l.most
