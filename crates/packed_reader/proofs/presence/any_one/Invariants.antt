use Rattle.std.proofs.Common.{◌≡◌, drop}
use Rattle.packed_encodings.specs.Packing.{any_set}
use Rattle.packed_reader.proofs.presence.any_one.Given as goal

abbrev pub invariant-loop-i : goal.invariant-loop-i
invariant-loop-i l = any_set (drop l.i l.bits) ≡ any_set l.bits
