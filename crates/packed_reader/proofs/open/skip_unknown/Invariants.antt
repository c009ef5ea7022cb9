use Rattle.std.proofs.Common.{◌≡◌, ◌+◌, ◌≤◌, drop, length}
use Rattle.bits.specs.Left.{bits_left}
use Rattle.packed_reader.specs.proving.Running.{run_unknown}
use Rattle.packed_reader.proofs.open.skip_unknown.Given as goal

abbrev pub invariant-loop-i : goal.invariant-loop-i
invariant-loop-i l =
    (run_unknown l.progress.skipped (drop l.i l.map) (bits_left l.bits) ≡ run_unknown l.fn.progress.skipped l.map (bits_left l.fn.bits))
    × (l.progress.skipped + length (bits_left l.bits) ≤ l.fn.progress.skipped + length (bits_left l.fn.bits))
    × (l.progress.left ≡ l.fn.progress.left)
