use Rattle.der_check.proofs.Shortened.{no_steps, not_head, with_head, not_in_head, not_after_head, first_breaks, later_breaks}
use Rattle.der_check.proofs.heads.+within_heads.Goals as goal

pub returns-in_default-clause-ok : goal.returns-in_default-clause-ok
returns-in_default-clause-ok t c = no_steps c.args.steps.now c.args.octets.now c.in_default.ensures.cases

pub returns-in_default-step : goal.returns-in_default-step
returns-in_default-step t c = record {
  ok = not_head c.args.steps.now c.in-Some.step.now c.in-Some.following.now c.args.octets.now c.in-Some.ensures.cases.0 c.in_default-step.not-Head;
  none = tt;
  broken = tt;
}

pub returns-in-Err-clause-none : goal.returns-in-Err-clause-none
returns-in-Err-clause-none t c = λ ss x w l. not_in_head c.in-Some.ensures.cases.0 c.in-Head.is c.in-Err.ensures.none w l

pub returns-in-Err-clause-broken : goal.returns-in-Err-clause-broken
returns-in-Err-clause-broken t c = λ tags r ss d x e b f l. first_breaks c.in-Err.breach tags r ss c.in-Some.ensures.cases.0 c.in-Head.is c.in-Err.ensures.broken e b f l

pub returns-in-Ok-within_heads-clause-ok : goal.returns-in-Ok-within_heads-clause-ok
returns-in-Ok-within_heads-clause-ok t c = with_head c.in-Some.ensures.cases.0 c.in-Head.is c.in-Ok.ensures.ok c.in-Ok-within_heads.ensures.ok

pub returns-in-Err-within_heads-clause-none : goal.returns-in-Err-within_heads-clause-none
returns-in-Err-within_heads-clause-none t c = λ ss x w l.
    not_after_head c.header_laws.ensures.none_begins_another c.in-Some.ensures.cases.0 c.in-Head.is c.in-Ok.ensures.ok c.in-Err-within_heads.ensures.none w l

pub returns-in-Err-within_heads-clause-broken : goal.returns-in-Err-within_heads-clause-broken
returns-in-Err-within_heads-clause-broken t c = λ tags r ss d x e b f l.
    later_breaks c.header_laws.ensures.none_begins_another c.in-Err-within_heads.breach c.moved.result c.distance.result tags r ss c.in-Some.ensures.cases.0 c.in-Head.is c.in-Ok.ensures.ok c.in-Err-within_heads.ensures.broken c.distance.ensures c.moved.ensures.rule c.moved.ensures.offset e b f l
