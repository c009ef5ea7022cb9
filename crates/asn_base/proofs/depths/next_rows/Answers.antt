use Rattle.std.proofs.Common.{arith, ◌≡◌, ◌+◌, length, sym, subst, ap, ◌∙◌}
use Rattle.std.specs.Prelude.{Some, slice_get}
use Rattle.asn_base.specs.Schemas.{components}
use Rattle.asn_base.specs.Depths.{IsDepthRow, rows_of}
use Rattle.asn_base.specs.Seen.{kind_of, resolved_of}
use Rattle.asn_base.proofs.DepthLaws.{type_at, rows_step, rows_more, rows_done}
use Rattle.asn_base.proofs.depths.next_rows.Goals as goal
use Rattle.asn_base.specs.proving.Lists.{length_mapped}

pub next_row-requires-clause-of : goal.next_row-requires-clause-of
next_row-requires-clause-of c =
    let there = type_at c.types-types.result.now c.loop-i.i c.index-types-i.result c.loop-i-test.true c.index-types-i.is in
    (resolved_of c.index-types-i.result, subst (λ q. slice_get q c.loop-i.i ≡ Some (resolved_of c.index-types-i.result)) c.types-types.ensures there, sym (c.components_of-components.ensures ∙ ap (λ r. components (kind_of r)) c.deref.ensures ∙ ap (λ r. components (kind_of r.core.value)) (sym c.index-types-i.is)))

pub loop-i-preserved : goal.loop-i-preserved
loop-i-preserved c =
    let there = type_at c.types-types.result.now c.loop-i.i c.index-types-i.result c.loop-i-test.true c.index-types-i.is in
    rows_step c.args.known.types.now (c.args.known.levels + 1) (rows_of c.loop-i.rows.items) (rows_of c.add.new.list.items) c.loop-i.i c.in_ok-one.one.items (resolved_of c.index-types-i.result)
    (subst (λ q. slice_get q c.loop-i.i ≡ Some (resolved_of c.index-types-i.result)) c.types-types.ensures there)
    (subst (λ q. IsDepthRow c.args.known.types.now (c.args.known.levels + 1) q c.in_ok-one.one.items) (c.components_of-components.ensures ∙ ap (λ r. components (kind_of r)) c.deref.ensures ∙ ap (λ r. components (kind_of r.core.value)) (sym c.index-types-i.is)) c.in_ok-one.ensures)
    (rows_more c.loop-i.rows.items c.add.new.list.items c.in_ok-one.one c.in_ok-add.ensures) c.loop-i.invariant

pub returns : goal.returns
returns c =
    let many = ap length c.types-types.ensures in
    let mapped = length_mapped resolved_of c.types-types.result.now in
    rows_done c.args.known.types.now (c.args.known.levels + 1) (rows_of c.loop-i.rows.items) c.loop-i.i (omega (arith, many, mapped, c.loop-i-test.false)) c.loop-i.invariant
