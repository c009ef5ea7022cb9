use Rattle.account_checker.proofs.Laws.{follows_right}
use Rattle.account_checker.proofs.Weaker.{right_follows, long_of}
use Rattle.account_checker.proofs.law.lemma_accounts_follow.Goals as goal

pub returns-clause-describes : goal.returns-clause-describes
returns-clause-describes c = follows_right c.header_laws.ensures.only

pub returns-clause-follows : goal.returns-clause-follows
returns-clause-follows c = right_follows c.header_laws.ensures.only

pub returns-clause-long : goal.returns-clause-long
returns-clause-long c = λ s t v o a d. long_of d
