use Rattle.asn_base.specs.Seen.{types_of}
use Rattle.codec_code.specs.ByLeaves.{AreMarksOf}
use Rattle.codec_code.proofs.by_leaves.all_marks.Given as goal

abbrev pub invariant-loop-levels : goal.invariant-loop-levels
invariant-loop-levels l = AreMarksOf (types_of l.types) l.levels l.marks.items
