use mir.Syntax.{w128}
use mir.Val.{of_z, to_z}
use Rattle.std.proofs.Common.{rules, arith, ap, sym, refl, ◌∙◌, ◌≡◌, ℕ}
use Rattle.asn_base.specs.Seen.{constraint_of}
use Rattle.packed_readings.proofs.Given.{above_judged, above_unread, none_past}
use Rattle.packed_readings.proofs.integer.judge_above.Goals as goal

pub returns-in-Ok-Some-clause-ok : goal.returns-in-Ok-Some-clause-ok
returns-in-Ok-Some-clause-ok c =
    above_judged (constraint_of c.args.constraint.now) c.args.least (to_z w128 (of_z w128 c.args.least)) c.args.octets.now c.in-Ok-Some.over c.in-Ok-Some.over c.above.result (search rules)
    (search rules) (search rules) c.above.ensures.ok

pub returns-in-Ok-Some-clause-err : goal.returns-in-Ok-Some-clause-err
returns-in-Ok-Some-clause-err c =
    above_unread (constraint_of c.args.constraint.now) c.args.least (to_z w128 (of_z w128 c.args.least)) c.args.octets.now c.in-Ok-Some.over c.in-Ok-Some.over c.above.result (search rules)
    (search rules) (search rules) c.above.ensures.err

pub returns-in-Ok-None-clause-err : goal.returns-in-Ok-None-clause-err
returns-in-Ok-None-clause-err c =
    none_past (constraint_of c.args.constraint.now) c.args.least c.args.octets.now (search rules) c.in-Ok-None.field-0
    c.in-Ok-None.field-0-is c.in-Ok-None.ensures.none
