use Rattle.std.proofs.Common.{ℕ, ◌<◌}
use Rattle.std.specs.Prelude.{slice_index}
use Rattle.asn_base.specs.Depths.{row_at, rows_of}
use Rattle.asn_base.specs.proving.Reaching.{AreFrom}
use Rattle.asn_base.proofs.circle.do_rise.Given as goal

abbrev pub invariant-loop-i : goal.invariant-loop-i
invariant-loop-i l = (i : ℕ) → i < l.i → AreFrom (slice_index l.ranks i) l.ranks (row_at (rows_of l.rows) i)
