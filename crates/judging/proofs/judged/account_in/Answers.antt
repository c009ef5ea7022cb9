use Rattle.std.proofs.Common.{Err, ap}
use Rattle.judging.proofs.Refused.{not_text}
use Rattle.judging.proofs.judged.account_in.Goals as goal

pub returns-in-Err-NotAccount-clause-none : goal.returns-in-Err-NotAccount-clause-none
returns-in-Err-NotAccount-clause-none c =
    c.no_account-in-Err-NotAccount.ensures
    (not_text c.args.octets.now c.in-Ok.text.now c.in-Ok.ensures.cases.0
    (c.in-Err-NotAccount.ensures.refused (ap Err c.in-Err-NotAccount.field-0-is)))
