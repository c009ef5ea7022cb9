use Rattle.der_check.proofs.Passing.{first_unit, fewest_two}
use Rattle.std.proofs.Common.{refl}
use Rattle.der_check.proofs.heads.first_inside.Goals as goal

pub returns-in-Some : goal.returns-in-Some
returns-in-Some c = let u = c.in-Some.ensures in first_unit c.args.head u refl c.form_if.ensures (fewest_two u.header u.long)
