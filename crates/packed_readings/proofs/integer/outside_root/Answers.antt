use Rattle.std.proofs.Common.{rules, arith, ap, sym, refl, ◌∙◌, ◌≡◌, ℕ}
use Rattle.std.specs.Prelude.{ℤ, pos, ◌+ℤ◌, IfOk, IfErr}
use Rattle.asn_base.specs.Seen.{constraint_of}
use Rattle.packed_readings.proofs.Given.{other_allowed, other_inside, other_barred}
use Rattle.packed_readings.proofs.integer.outside_root.Goals as goal

pub returns-then-is_in_root-clause-err : goal.returns-then-is_in_root-clause-err
returns-then-is_in_root-clause-err c =
    other_inside (constraint_of c.args.constraint.now) c.args.number _ c.is_in_root.result (search rules) (search rules)
    c.is_in_root.ensures c.if-is_in_root.true

pub returns-then-is_allowed-clause-ok : goal.returns-then-is_allowed-clause-ok
returns-then-is_allowed-clause-ok c =
    other_allowed (constraint_of c.args.constraint.now) c.args.number _ c.is_in_root.result c.is_allowed.result (search rules)
    (search rules) c.is_in_root.ensures c.if-is_in_root.false c.is_allowed.ensures c.if-is_allowed.true

pub returns-clause-err : goal.returns-clause-err
returns-clause-err c =
    other_barred (constraint_of c.args.constraint.now) c.args.number _ c.is_in_root.result c.is_allowed.result (search rules)
    (search rules) c.is_in_root.ensures c.if-is_in_root.false c.is_allowed.ensures c.if-is_allowed.false
