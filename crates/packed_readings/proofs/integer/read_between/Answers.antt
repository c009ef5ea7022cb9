use mir.Syntax.{w128}
use mir.Val.{of_z, to_z}
use Rattle.std.proofs.Common.{rules, arith, ap, sym, refl, ◌∙◌, ◌≡◌, ℕ}
use Rattle.asn_base.specs.Seen.{constraint_of}
use Rattle.std.specs.Prelude.{nat_abs, ◌-ℤ◌}
use Rattle.bits.specs.Left.{bits_left}
use Rattle.asn_base.specs.Abstract.{integer}
use Rattle.packed_encodings.specs.Lengths.{fewest_bits}
use Rattle.packed_readings.specs.Leaves.{number_between}
use Rattle.packed_readings.specs.Outcome.{field_from}
use Rattle.packed_readings.proofs.Given.{good_same, judged_good, judged_bad, same_between}
use Rattle.packed_readings.proofs.integer.read_between.Goals as goal

pub returns-in-Ok-between : goal.returns-in-Ok-between
returns-in-Ok-between c =
    judged_good (number_between (constraint_of c.args.constraint.now) c.args.least (nat_abs (c.args.greatest -ℤ c.args.least)))
    (field_from (fewest_bits (nat_abs (c.args.greatest -ℤ c.args.least)))) (bits_left c.args.bits.now)
    (bits_left c.read_wide.new.bits) c.in-Ok.over _
    (search rules)
    (same_between (constraint_of c.args.constraint.now) c.args.least (to_z w128 (of_z w128 c.args.least))
    (nat_abs (c.args.greatest -ℤ c.args.least)) c.in-Ok.over c.abs_diff-span.result c.in-Ok.over _
    (search rules) (search rules) (search rules)
    (good_same _ c.in-Ok-between.number (to_z w128 (of_z w128 c.in-Ok-between.number)) (search rules) c.in-Ok-between.ensures.ok))

pub returns-in-Err-between : goal.returns-in-Err-between
returns-in-Err-between c =
    judged_bad (number_between (constraint_of c.args.constraint.now) c.args.least (nat_abs (c.args.greatest -ℤ c.args.least)))
    (field_from (fewest_bits (nat_abs (c.args.greatest -ℤ c.args.least)))) (bits_left c.args.bits.now)
    (bits_left c.read_wide.new.bits) c.in-Ok.over c.in-Err-between.refusal (search rules)
    (same_between (constraint_of c.args.constraint.now) c.args.least (to_z w128 (of_z w128 c.args.least))
    (nat_abs (c.args.greatest -ℤ c.args.least)) c.in-Ok.over c.abs_diff-span.result c.in-Ok.over _ (search rules) (search rules) (search rules) c.in-Err-between.ensures.err)
