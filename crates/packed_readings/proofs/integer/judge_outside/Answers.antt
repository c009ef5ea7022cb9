use mir.Syntax.{w128}
use mir.Val.{of_z, to_z}
use Rattle.std.proofs.Common.{rules, arith, ap, sym, refl, ◌∙◌, ◌≡◌, ℕ}
use Rattle.asn_base.specs.Seen.{constraint_of}
use Rattle.packed_readings.proofs.Judging.{other_none}
use Rattle.packed_readings.proofs.Given.{other_judged, other_unread}
use Rattle.packed_readings.proofs.integer.judge_outside.Goals as goal

pub returns-in-Ok-clause-ok : goal.returns-in-Ok-clause-ok
returns-in-Ok-clause-ok c =
    other_judged (constraint_of c.args.constraint.now) c.args.octets.now c.in-Ok.number (to_z w128 (of_z w128 c.in-Ok.number)) c.outside_root.result (search rules) c.in-Ok.ensures.ok
    c.outside_root.ensures.ok

pub returns-in-Ok-clause-err : goal.returns-in-Ok-clause-err
returns-in-Ok-clause-err c =
    other_unread (constraint_of c.args.constraint.now) c.args.octets.now c.in-Ok.number (to_z w128 (of_z w128 c.in-Ok.number)) c.outside_root.result (search rules) c.in-Ok.ensures.ok
    c.outside_root.ensures.err

pub returns-in-Err-clause-err : goal.returns-in-Err-clause-err
returns-in-Err-clause-err c = other_none (constraint_of c.args.constraint.now) c.args.octets.now c.in-Err.refusal c.in-Err.ensures.err
