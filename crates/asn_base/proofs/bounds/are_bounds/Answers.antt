use Rattle.std.specs.Prelude.{Some, None}
use Rattle.asn_base.specs.Seen.{constraint_of}
use Rattle.asn_base.specs.proving.Bounding.{From}
use Rattle.asn_base.proofs.Bounding.{fixed}
use Rattle.asn_base.proofs.bounds.are_bounds.Goals as goal
use Rattle.asn_base.specs.proving.Lists.{onward}

pub returns-in_ok-list-in-Some : goal.returns-in_ok-list-in-Some
returns-in_ok-list-in-Some c =
    let a = fixed (From c.args.floor) (constraint_of c.args.constraint.now) (Some c.in-Some.ranges) c.in-Some.is c.if-constraint.false in
    let b = rw (c.as_slice.ensures.value, c.in_ok-list-in-Some.ensures) at c.are_bounds_of.ensures in
    onward b a.0 a.1

pub returns-in-None : goal.returns-in-None
returns-in-None c =
    let a = fixed (From c.args.floor) (constraint_of c.args.constraint.now) None c.in-None.is c.if-constraint.false in
    onward c.are_of_all.ensures a.0 a.1
