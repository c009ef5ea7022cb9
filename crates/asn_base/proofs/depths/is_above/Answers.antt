use Rattle.std.proofs.Common.{arith, ◌≤◌, below_more, sym, subst, ap, ◌∙◌}
use Rattle.asn_base.specs.Depths.{in_row, rows_of}
use Rattle.asn_base.proofs.DepthLaws.{none_above, row_here}
use Rattle.asn_base.proofs.depths.is_above.Goals as goal
use Rattle.asn_base.specs.proving.Lists.{length_mapped}

pub loop-i-preserved : goal.loop-i-preserved
loop-i-preserved c =
    let row = row_here c.args.rows.now c.loop-i.i c.index-rows-i.result c.loop-i-test.true ∙ ap (λ v. v.items) (sym c.index-rows-i.is) ∙ sym c.as_slice.ensures.value in
    below_more _ _ c.loop-i.invariant (λ j. subst (λ q. in_row q j ≤ c.args.most) (sym row) (c.row_above.ensures c.if-row_above.false j))

pub returns : goal.returns
returns c = λ e.
    let many = length_mapped (λ v. v.items) c.args.rows.now in
    none_above c.args.most (rows_of c.args.rows.now) (λ t l j. c.loop-i.invariant t (let h = c.loop-i-test.false in omega (arith, many, h, l)) j) c.requires
