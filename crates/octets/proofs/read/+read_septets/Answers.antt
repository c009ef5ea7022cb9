use Rattle.std.proofs.Common.{arith}
use Rattle.octets.proofs.Septets.{too_many}
use Rattle.octets.proofs.read.+read_septets.Goals as goal

pub returns-then-worth-ge16777216-clause-err : goal.returns-then-worth-ge16777216-clause-err
returns-then-worth-ge16777216-clause-err t c = too_many c.args.high c.in-Some.octet.now c.args.octets.now c.in-Some.after.now c.in-Some.ensures.cases.0 c.if-octet-lt128.false (omega arith) c.if-worth-ge16777216.true
