use Rattle.std.proofs.Common.{◌≡◌, length}
use Rattle.asn_base.specs.Seen.{types_of}
use Rattle.codec_code.specs.ByLeaves.{AreNextMarks}
use Rattle.codec_code.proofs.by_leaves.next_marks.Given as goal

abbrev pub invariant-loop-i : goal.invariant-loop-i
invariant-loop-i l = record {
  as_many : length l.marks.items ≡ l.i;
  are : AreNextMarks (types_of l.types) l.before l.marks.items;
}
