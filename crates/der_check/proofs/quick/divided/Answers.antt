use Rattle.std.proofs.Common.{arith, ap, length, length-append}
use Rattle.der_check.proofs.Passing.{divided_first}
use Rattle.der_check.proofs.quick.divided.Goals as goal

pub returns-then-count-octets : goal.returns-then-count-octets
returns-then-count-octets c = λ x r e f. divided_first x r c.args.count e f c.split_at.ensures.front c.split_at.ensures.back

pub returns-else-count-octets : goal.returns-else-count-octets
returns-else-count-octets c = λ x r e f. absurd (let a = ap length e in let b = length-append x r in omega (arith, a, b, f, c.if-count-octets.false))
