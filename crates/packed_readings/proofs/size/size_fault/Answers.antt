use Rattle.std.proofs.Common.{rules}
use Rattle.asn_base.specs.Seen.{constraint_of}
use Rattle.packed_readings.proofs.Given.{fault_twice, fault_root, fault_refused, fault_inside, fault_other, fault_none}
use Rattle.packed_readings.proofs.size.size_fault.Goals as goal

pub returns-then-outside : goal.returns-then-outside
returns-then-outside c =
    fault_twice (constraint_of c.args.constraint.now) c.args.outside c.args.count _
    c.is_in_root.result (search rules) c.is_in_root.ensures c.if-is_in_root.true c.if-outside.true

pub returns-then-allowed : goal.returns-then-allowed
returns-then-allowed c =
    fault_root (constraint_of c.args.constraint.now) c.args.outside c.args.count _
    c.is_in_root.result c.is_allowed-allowed.result (search rules) c.is_in_root.ensures c.if-is_in_root.true
    c.if-outside.false c.is_allowed-allowed.ensures c.if-allowed.true

pub returns-then-is_in_root : goal.returns-then-is_in_root
returns-then-is_in_root c =
    fault_refused (constraint_of c.args.constraint.now) c.args.outside c.args.count _
    c.is_allowed-allowed.result (search rules) c.is_allowed-allowed.ensures c.if-allowed.false c.if-outside.false

pub returns-then-not-outside : goal.returns-then-not-outside
returns-then-not-outside c =
    fault_inside (constraint_of c.args.constraint.now) c.args.outside c.args.count _
    c.is_in_root.result (search rules) c.is_in_root.ensures c.if-is_in_root.false (search rules)

pub returns-then-allowed-2 : goal.returns-then-allowed-2
returns-then-allowed-2 c =
    fault_other (constraint_of c.args.constraint.now) c.args.outside c.args.count _
    c.is_in_root.result c.is_allowed-allowed.result (search rules) c.is_in_root.ensures c.if-is_in_root.false
    (search rules) c.is_allowed-allowed.ensures c.if-allowed-2.true

pub returns : goal.returns
returns c =
    fault_none (constraint_of c.args.constraint.now) c.args.outside c.args.count _
    c.is_in_root.result c.is_allowed-allowed.result (search rules) c.is_in_root.ensures c.if-is_in_root.false
    (search rules) c.is_allowed-allowed.ensures c.if-allowed-2.false
