use Rattle.asn_base.specs.Abstract.{abstract}
use Rattle.account_checker.proofs.checking.check.Goals as goal

pub returns-then-is_followed-clause-no : goal.returns-then-is_followed-clause-no
returns-then-is_followed-clause-no c = λ r. (λ e. absurd (cc), λ f. absurd (c.lemma_one_reason.ensures.none c.args.schema.now c.args.id.index (abstract c.args.value.now) c.args.octets.now c.args.account.now r (record { value = c.is_value.ensures.0 c.if-not-is_value.false; describes = c.lemma_accounts_follow.ensures.describes c.args.schema.now c.args.id.index (abstract c.args.value.now) c.args.octets.now c.args.account.now (c.has_length-long.ensures.0 c.if-long.true) (c.is_followed.ensures.0 c.if-is_followed.true) }) f))
