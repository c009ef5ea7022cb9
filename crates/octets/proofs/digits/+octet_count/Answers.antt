use Rattle.std.proofs.Common.{◌<◌, arith}
use Rattle.octets.proofs.DigitSteps.{count_step, count_most}
use Rattle.octets.proofs.digits.+octet_count.Goals as goal

pub returns-else-number-eq0-clause-most : goal.returns-else-number-eq0-clause-most
returns-else-number-eq0-clause-most t c =
    let above : 0 < c.args.number = omega arith in
    omega (arith, count_step c.args.number c.octet_count.result above c.octet_count.ensures.count, count_most c.args.number (omega arith))
