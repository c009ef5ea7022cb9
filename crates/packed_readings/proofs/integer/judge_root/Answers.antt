use mir.Syntax.{w128}
use mir.Val.{of_z, to_z}
use Rattle.std.proofs.Common.{rules, arith, ap, sym, refl, ◌∙◌, ◌≡◌, ℕ}
use Rattle.asn_base.specs.Seen.{constraint_of}
use Rattle.packed_readings.proofs.Judging.{root_none}
use Rattle.packed_readings.proofs.Given.{root_judged, root_unread}
use Rattle.packed_readings.proofs.integer.judge_root.Goals as goal

pub returns-in-Ok-clause-ok : goal.returns-in-Ok-clause-ok
returns-in-Ok-clause-ok c =
    root_judged (constraint_of c.args.constraint.now) c.args.octets.now c.in-Ok.number (to_z w128 (of_z w128 c.in-Ok.number)) c.in_root.result (search rules) c.in-Ok.ensures.ok
    c.in_root.ensures.ok

pub returns-in-Ok-clause-err : goal.returns-in-Ok-clause-err
returns-in-Ok-clause-err c =
    root_unread (constraint_of c.args.constraint.now) c.args.octets.now c.in-Ok.number (to_z w128 (of_z w128 c.in-Ok.number)) c.in_root.result (search rules) c.in-Ok.ensures.ok
    c.in_root.ensures.err

pub returns-in-Err-clause-err : goal.returns-in-Err-clause-err
returns-in-Err-clause-err c = root_none (constraint_of c.args.constraint.now) c.args.octets.now c.in-Err.refusal c.in-Err.ensures.err
