use Rattle.std.proofs.Common.{take}
use Rattle.primitive_reader.proofs.Spelling.{AreHigh}
use Rattle.primitive_reader.proofs.septets.after_septets.Given as goal

abbrev pub invariant-loop-i : goal.invariant-loop-i
invariant-loop-i l = AreHigh (take l.i l.octets)
