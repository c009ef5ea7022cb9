use mir.Syntax.{w128}
use mir.Val.{of_z, to_z}
use Rattle.std.proofs.Common.{rules, arith, ap, sym, refl, ◌∙◌, ◌≡◌, ℕ}
use Rattle.asn_base.specs.Seen.{constraint_of}
use Rattle.packed_readings.proofs.Judging.{sum_past}
use Rattle.packed_readings.proofs.Given.{above_ok, above_err}
use Rattle.packed_readings.proofs.integer.above.Goals as goal

pub returns-in-Some-clause-ok : goal.returns-in-Some-clause-ok
returns-in-Some-clause-ok c =
    above_ok (constraint_of c.args.constraint.now) c.args.least c.args.over (to_z w128 (of_z w128 c.in-Some.number)) c.in_root.result (search rules) c.in_root.ensures.ok

pub returns-in-Some-clause-err : goal.returns-in-Some-clause-err
returns-in-Some-clause-err c =
    above_err (constraint_of c.args.constraint.now) c.args.least c.args.over (to_z w128 (of_z w128 c.in-Some.number)) c.in_root.result (search rules) c.in_root.ensures.err

pub returns-in-None-clause-err : goal.returns-in-None-clause-err
returns-in-None-clause-err c = sum_past (constraint_of c.args.constraint.now) c.args.least c.args.over (search rules)
