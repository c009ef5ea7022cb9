use Rattle.std.proofs.Common.{◌≡◌, ◌-◌, map, drop}
use Rattle.std.specs.Prelude.{option_map}
use Rattle.asn_base.specs.Abstract.{abstract, row_of_options, row_of_list}
use Rattle.packed_encodings.specs.Weights.{row_weight}
use Rattle.packed_writer.proofs.weight.+weighs.Given as goal

abbrev pub invariant-weigh_fields-loop-i : goal.invariant-weigh_fields-loop-i
invariant-weigh_fields-loop-i l =
    l.left - row_weight (row_of_options (drop l.i (map (option_map abstract) l.values)))
    ≡ l.fn.left - row_weight (row_of_options (map (option_map abstract) l.values))

abbrev pub invariant-weigh_elements-loop-i : goal.invariant-weigh_elements-loop-i
invariant-weigh_elements-loop-i l =
    l.left - row_weight (row_of_list (drop l.i (map abstract l.values)))
    ≡ l.fn.left - row_weight (row_of_list (map abstract l.values))
