use Rattle.std.proofs.Common.{arith, ◌<◌, length, map, Some, sym, ap, ◌∙◌}
use Rattle.std.specs.Prelude.{option_map}
use Rattle.asn_base.specs.Abstract.{abstract}
use Rattle.asn_base.specs.Seen.{component_of}
use Rattle.value_builders.proofs.Setting.{same_read, drop_at, drop_past, missing_here, missing_later, none_missing}
use Rattle.value_builders.proofs.fields.first_missing.Goals as goal

pub returns-then-is_missing : goal.returns-then-is_missing
returns-then-is_missing c =
    let lt : c.loop-i.i < length c.args.values.now = omega arith in
    missing_here (map component_of c.args.components.now) (map (option_map abstract) c.args.values.now) c.loop-i.i (component_of c.index-components-i.result) (option_map abstract c.index-values-i.result)
    (drop_at component_of c.args.components.now c.loop-i.i c.index-components-i.result c.loop-i-test.true c.index-components-i.is)
    (drop_at (option_map abstract) c.args.values.now c.loop-i.i c.index-values-i.result lt c.index-values-i.is)
    c.loop-i.invariant (sym c.is_missing.ensures ∙ c.if-is_missing.true)
    ∙ ap (λ q. Some (component_of q).name) (same_read c.args.components.now c.loop-i.i c.index-components-i.result c.index-components-i-then-is_missing.result c.loop-i-test.true c.index-components-i.is c.index-components-i-then-is_missing.is)

pub loop-i-preserved : goal.loop-i-preserved
loop-i-preserved c =
    let lt : c.loop-i.i < length c.args.values.now = omega arith in
    missing_later (map component_of c.args.components.now) (map (option_map abstract) c.args.values.now) c.loop-i.i (component_of c.index-components-i.result) (option_map abstract c.index-values-i.result)
    (drop_at component_of c.args.components.now c.loop-i.i c.index-components-i.result c.loop-i-test.true c.index-components-i.is)
    (drop_at (option_map abstract) c.args.values.now c.loop-i.i c.index-values-i.result lt c.index-values-i.is)
    c.loop-i.invariant (sym c.is_missing.ensures ∙ c.if-is_missing.false)

pub returns : goal.returns
returns c = none_missing (map component_of c.args.components.now) (map (option_map abstract) c.args.values.now) c.loop-i.i (drop_past component_of c.args.components.now c.loop-i.i c.loop-i-test.false) c.loop-i.invariant
