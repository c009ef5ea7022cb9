use Rattle.std.proofs.Common.{rules, sym, subst}
use Rattle.asn_base.specs.Seen.{resolved_of, types_of}
use Rattle.codec_code.specs.ByLeaves.{AreNextMarks}
use Rattle.codec_code.proofs.ByLeaves.{more_marks, type_at}
use Rattle.codec_code.proofs.by_leaves.next_marks.Goals as goal

pub loop-i-preserved : goal.loop-i-preserved
loop-i-preserved c =
    let s = types_of c.args.types.now in
    let there = type_at c.args.types.now c.loop-i.i c.index-types-i.result c.loop-i-test.true c.index-types-i.is in
    record {
      as_many = search rules;
      are = subst (AreNextMarks s c.args.before.now) (sym c.in_ok-push.ensures.items) (more_marks s c.args.before.now c.loop-i.marks.items c.in_ok-mark.mark c.loop-i.i (resolved_of c.index-types-i.result) c.loop-i.invariant.as_many c.loop-i.invariant.are there (search rules));
    }
