use Rattle.std.proofs.Common.{rules, arith, ap, sym, refl, ◌∙◌, ◌≡◌, ℕ}
use Rattle.std.specs.Prelude.{ℤ, pos, ◌+ℤ◌, IfOk, IfErr}
use Rattle.asn_base.specs.Seen.{constraint_of}
use Rattle.packed_readings.proofs.Given.{root_allowed, root_apart, root_barred}
use Rattle.packed_readings.proofs.integer.in_root.Goals as goal

pub returns-then-not-is_in_root-clause-err : goal.returns-then-not-is_in_root-clause-err
returns-then-not-is_in_root-clause-err c =
    root_apart (constraint_of c.args.constraint.now) c.args.number _ c.is_in_root.result (search rules) (search rules)
    c.is_in_root.ensures (search rules)

pub returns-then-is_allowed-clause-ok : goal.returns-then-is_allowed-clause-ok
returns-then-is_allowed-clause-ok c =
    root_allowed (constraint_of c.args.constraint.now) c.args.number _ c.is_in_root.result c.is_allowed.result (search rules)
    (search rules) c.is_in_root.ensures (search rules) c.is_allowed.ensures c.if-is_allowed.true

pub returns-clause-err : goal.returns-clause-err
returns-clause-err c =
    root_barred (constraint_of c.args.constraint.now) c.args.number _ c.is_in_root.result c.is_allowed.result (search rules)
    (search rules) c.is_in_root.ensures (search rules) c.is_allowed.ensures c.if-is_allowed.false
