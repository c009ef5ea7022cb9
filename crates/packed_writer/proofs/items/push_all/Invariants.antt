use Rattle.std.proofs.Common.{◌≡◌, ◌++◌, drop}
use Rattle.packed_encodings.specs.Lengths.{all_bits}
use Rattle.packed_writer.proofs.items.push_all.Given as goal

abbrev pub invariant-loop-i : goal.invariant-loop-i
invariant-loop-i l = l.out ++ all_bits (drop l.i l.items) ≡ l.fn.out ++ all_bits l.items
