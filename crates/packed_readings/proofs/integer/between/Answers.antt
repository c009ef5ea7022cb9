use mir.Syntax.{w128}
use mir.Val.{of_z, to_z}
use Rattle.std.proofs.Common.{rules, arith, ap, sym, refl, ◌∙◌, ◌≡◌, ℕ}
use Rattle.asn_base.specs.Seen.{constraint_of}
use Rattle.packed_readings.proofs.Given.{between_ok, between_err, past_span}
use Rattle.packed_readings.proofs.integer.between.Goals as goal

pub returns-then-span-over-clause-err : goal.returns-then-span-over-clause-err
returns-then-span-over-clause-err c = past_span (constraint_of c.args.constraint.now) c.args.least c.args.span c.args.over c.if-span-over.true

pub returns-clause-ok : goal.returns-clause-ok
returns-clause-ok c =
    between_ok (constraint_of c.args.constraint.now) c.args.least (to_z w128 (of_z w128 c.args.least)) c.args.span c.args.over c.args.over c.above.result (search rules)
    (search rules) c.if-span-over.false c.above.ensures.ok

pub returns-clause-err : goal.returns-clause-err
returns-clause-err c =
    between_err (constraint_of c.args.constraint.now) c.args.least (to_z w128 (of_z w128 c.args.least)) c.args.span c.args.over c.args.over c.above.result (search rules)
    (search rules) c.if-span-over.false c.above.ensures.err
