use Rattle.std.proofs.Common.{◌≡◌, ◌++◌, drop}
use Rattle.codec_code.specs.Routines.{heads}
use Rattle.codec_code.proofs.routine.push_heads.Given as goal

abbrev pub invariant-loop-i : goal.invariant-loop-i
invariant-loop-i l = l.out.items ++ heads (drop l.i l.tags) l.row ≡ l.fn.out.items ++ heads l.tags l.row
