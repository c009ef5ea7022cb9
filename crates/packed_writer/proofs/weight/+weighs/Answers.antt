use Rattle.std.proofs.Common.{◌+◌, ◌-◌, map, drop, refl, ap, ◌∙◌}
use Rattle.std.specs.Prelude.{Some, None, option_map}
use Rattle.asn_base.specs.Abstract.{abstract, row_of_options}
use Rattle.packed_encodings.specs.Weights.{row_weight}
use Rattle.packed_writer.proofs.Weighed.{drop_is, one_absent, one_present, one_element}
use Rattle.packed_writer.proofs.weight.+weighs.Goals.{weigh_fields-in-Some, weigh_fields-in-None}
use Rattle.packed_writer.proofs.weight.+weighs.Goals as goal

pub weigh_elements-loop-i-preserved : goal.weigh_elements-loop-i-preserved
weigh_elements-loop-i-preserved t c =
    one_element (map abstract c.args.values.now) c.loop-i.i c.loop-i.left c.weigh.new.left _ (abstract c.index-values-i.result)
    (drop_is abstract c.args.values.now c.loop-i.i c.index-values-i.result (abstract c.index-values-i.result) c.loop-i-test.true c.index-values-i.is refl)
    c.weigh.ensures c.loop-i.invariant

pub weigh_fields-loop-i-preserved : goal.weigh_fields-loop-i-preserved
weigh_fields-loop-i-preserved t c =
    elim c.match-values-i.branch [
      | weigh_fields-in-Some w ↦
          one_present (map (option_map abstract) c.args.values.now) c.loop-i.i c.loop-i.left c.match-values-i.left _ (abstract w.in-Some.value)
          (drop_is (option_map abstract) c.args.values.now c.loop-i.i c.index-values-i.result (Some (abstract w.in-Some.value)) c.loop-i-test.true c.index-values-i.is (ap (option_map abstract) w.in-Some.is))
          (w.left-is ∙ w.weigh.ensures) c.loop-i.invariant
      | weigh_fields-in-None w ↦
          ap (λ q. q - row_weight (row_of_options (drop (c.loop-i.i + 1) (map (option_map abstract) c.args.values.now)))) w.left-is
          ∙ one_absent (map (option_map abstract) c.args.values.now) c.loop-i.i c.loop-i.left _
          (drop_is (option_map abstract) c.args.values.now c.loop-i.i c.index-values-i.result None c.loop-i-test.true c.index-values-i.is (ap (option_map abstract) w.in-None.is))
          c.loop-i.invariant
    ]
