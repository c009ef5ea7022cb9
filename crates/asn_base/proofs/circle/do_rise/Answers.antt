use Rattle.std.proofs.Common.{arith, below_more, sym, subst, ap, ◌∙◌}
use Rattle.std.specs.Prelude.{slice_index}
use Rattle.asn_base.specs.Depths.{rows_of}
use Rattle.asn_base.specs.proving.Reaching.{AreFrom}
use Rattle.asn_base.proofs.DepthLaws.{row_here}
use Rattle.asn_base.proofs.Reaching.{rise_end}
use Rattle.asn_base.proofs.circle.do_rise.Goals as goal
use Rattle.asn_base.specs.proving.Lists.{length_mapped}

pub loop-i-preserved : goal.loop-i-preserved
loop-i-preserved c =
    let row = row_here c.args.rows.now c.loop-i.i c.index-rows-i.result c.loop-i-test.true ∙ ap (λ v. v.items) (sym c.index-rows-i.is) ∙ sym c.as_slice.ensures.value in
    below_more _ _ c.loop-i.invariant (subst (AreFrom (slice_index c.args.ranks.now c.loop-i.i) c.args.ranks.now) (sym row) (subst (λ q. AreFrom q c.args.ranks.now c.as_slice.result.now) c.rank_at.ensures (c.are_from.ensures.0 c.if-not-are_from.false)))

pub returns : goal.returns
returns c = λ e.
    let many = length_mapped (λ v. v.items) c.args.rows.now in
    rise_end (rows_of c.args.rows.now) c.args.ranks.now c.loop-i.i (omega (arith, many, c.loop-i-test.false)) c.loop-i.invariant
