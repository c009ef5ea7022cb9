use Rattle.std.proofs.Common.{arith, get_or}
use Rattle.std.proofs.lemmas.Option.{slice_get-get_or}
use Rattle.asn_base.proofs.Reaching.{row_none, row_more, row_all, member_of}
use Rattle.asn_base.proofs.circle.mark_row.Goals as goal

pub mark-requires : goal.mark-requires
mark-requires c =
    let here = c.requires (get_or c.args.row.now c.loop-i.i 0) (member_of c.args.row.now c.loop-i.i _ (slice_get-get_or c.args.row.now c.loop-i.i 0 c.loop-i-test.true)) in
    omega (arith, here, c.loop-i.invariant.long)

pub loop-i-init : goal.loop-i-init
loop-i-init c = row_none c.args.row.now c.args.marks.now c.args.waiting.now.items

pub loop-i-preserved : goal.loop-i-preserved
loop-i-preserved c =
    row_more c.args.row.now c.loop-i.i (get_or c.args.row.now c.loop-i.i 0) c.args.marks.now c.loop-i.marks c.mark.new.marks c.args.waiting.now.items c.loop-i.waiting.items c.mark.new.waiting.items
    (slice_get-get_or c.args.row.now c.loop-i.i 0 c.loop-i-test.true) c.loop-i.invariant c.in_ok-mark.ensures

pub returns : goal.returns
returns c = row_all c.args.row.now c.loop-i.i c.args.marks.now c.loop-i.marks c.args.waiting.now.items c.loop-i.waiting.items (omega (arith, c.loop-i-test.false)) c.loop-i.invariant
