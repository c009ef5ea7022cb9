use Rattle.std.proofs.Common.{refl}
use Rattle.der_check.proofs.Passing.{first_unit, fewest_two}
use Rattle.der_check.proofs.quick.quick_leaf.Goals as goal

pub returns-then-is_quickly_distinguished : goal.returns-then-is_quickly_distinguished
returns-then-is_quickly_distinguished c =
    let u = c.in-Some.ensures in
    let f = first_unit c.args.head u refl c.form_if.ensures (fewest_two u.header u.long) in
    (c.in-Some.contents.now, f.0, c.in-Some.rest.now, f.1, f.2, c.distance.ensures, λ v h. c.is_quickly_distinguished.ensures v c.if-is_quickly_distinguished.true h)
