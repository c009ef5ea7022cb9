use Rattle.std.proofs.Common.{sym, ap, ◌∙◌}
use Rattle.asn_base.specs.Depths.{in_row}
use Rattle.asn_base.proofs.DepthLaws.{no_row, row_here, in_row_end, in_row_here}
use Rattle.asn_base.proofs.depths.depth.Goals as goal

pub returns-then-ty-rows : goal.returns-then-ty-rows
returns-then-ty-rows c = sym (no_row c.args.rows.now c.args.ty c.args.place c.if-ty-rows.true)

pub returns-then-place-row : goal.returns-then-place-row
returns-then-place-row c =
    let row = row_here c.args.rows.now c.args.ty c.index-rows-ty.result c.if-ty-rows.false ∙ ap (λ v. v.items) (sym c.index-rows-ty.is) ∙ sym c.as_slice-row.ensures.value in
    sym (ap (λ q. in_row q c.args.place) row ∙ in_row_end c.as_slice-row.result.now c.args.place c.if-place-row.true)

pub returns : goal.returns
returns c =
    let row = row_here c.args.rows.now c.args.ty c.index-rows-ty.result c.if-ty-rows.false ∙ ap (λ v. v.items) (sym c.index-rows-ty.is) ∙ sym c.as_slice-row.ensures.value in
    sym (ap (λ q. in_row q c.args.place) row ∙ in_row_here c.as_slice-row.result.now c.args.place c.if-place-row.false)
