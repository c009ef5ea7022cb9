use Rattle.std.proofs.Common.{map}
use Rattle.named_values.specs.front_end.Accepted.{octets_of}
use Rattle.named_values.specs.Given.{as_given}
use Rattle.judging.proofs.Refused.{not_judged}
use Rattle.judging.proofs.judged.judge.Goals as goal

pub returns-in-Err-clause-refused : goal.returns-in-Err-clause-refused
returns-in-Err-clause-refused c =
    c.refusal.ensures (map octets_of c.args.texts.now) c.args.ty.now (as_given c.args.value) c.args.account.now c.in-Err.ensures.fault

pub returns-clause-refused : goal.returns-clause-refused
returns-clause-refused c =
    not_judged (map octets_of c.args.texts.now) c.in-Ok.front.modules c.args.ty.now (as_given c.args.value) c.args.account.now c.in-Err-judge_in.fault
    c.in-Ok.ensures.accepted.accepted c.in-Err-judge_in.ensures.refused
