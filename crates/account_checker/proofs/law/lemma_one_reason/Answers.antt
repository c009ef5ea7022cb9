use Rattle.account_checker.proofs.Weaker.{none_fails}
use Rattle.account_checker.proofs.law.lemma_one_reason.Goals as goal

pub returns-clause-none : goal.returns-clause-none
returns-clause-none c = λ s t v o a r i f. none_fails s t v o a r i (c.lemma_accounts_follow.ensures.follows s t v o a i.describes) f
