use Rattle.std.proofs.Common.{rules, arith, ap, sym, refl, ◌∙◌, ◌≡◌, ℕ}
use Rattle.std.specs.Prelude.{ℤ, pos, ◌+ℤ◌, IfOk, IfErr}
use Rattle.asn_base.specs.Seen.{constraint_of}
use Rattle.packed_readings.proofs.Given.{over_allowed, over_past, over_refused}
use Rattle.packed_readings.proofs.size.size_over.Goals as goal

pub returns-then-above-over-clause-err : goal.returns-then-above-over-clause-err
returns-then-above-over-clause-err c =
    over_past (constraint_of c.args.constraint.now) c.args.least c.args.above c.args.over c.if-above-over.true

pub returns-then-is_allowed-clause-ok : goal.returns-then-is_allowed-clause-ok
returns-then-is_allowed-clause-ok c =
    over_allowed (constraint_of c.args.constraint.now) c.args.least c.args.above c.args.over _ c.is_allowed.result
    c.if-above-over.false (search rules) c.is_allowed.ensures c.if-is_allowed.true

pub returns-else-is_allowed-clause-err : goal.returns-else-is_allowed-clause-err
returns-else-is_allowed-clause-err c =
    over_refused (constraint_of c.args.constraint.now) c.args.least c.args.above c.args.over _ c.is_allowed.result
    c.if-above-over.false (search rules) c.is_allowed.ensures c.if-is_allowed.false
