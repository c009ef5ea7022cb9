use Rattle.std.proofs.Common.{sym, ap, ◌∙◌}
use Rattle.asn_base.specs.Schemas.{components}
use Rattle.asn_base.specs.Seen.{kind_of, resolved_of, types_of}
use Rattle.asn_base.specs.proving.Reaching.{default_types}
use Rattle.asn_base.proofs.Graphs.{row_added, rows_added}
use Rattle.asn_base.proofs.graph.default_rows.Goals as goal
use Rattle.asn_base.specs.proving.Lists.{drop_is, drop_end}

pub loop-i-preserved : goal.loop-i-preserved
loop-i-preserved c =
    row_added (λ r. default_types (components r.kind)) c.loop-i.rows.items c.add.new.list.items c.in_ok-row.row (types_of c.args.types.now) c.loop-i.i (resolved_of c.index-types-i.result) c.in_ok-add.ensures
    (drop_is resolved_of c.args.types.now c.loop-i.i c.index-types-i.result c.loop-i-test.true c.index-types-i.is)
    (c.in_ok-row.ensures ∙ ap default_types c.components_of.ensures ∙ ap (λ r. default_types (components (kind_of r))) c.deref.ensures ∙ ap (λ r. default_types (components (kind_of r.core.value))) (sym c.index-types-i.is)) c.loop-i.invariant

pub returns : goal.returns
returns c = rows_added (λ r. default_types (components r.kind)) c.loop-i.rows.items (types_of c.args.types.now) c.loop-i.i (drop_end resolved_of c.args.types.now c.loop-i.i c.loop-i-test.false) c.loop-i.invariant
