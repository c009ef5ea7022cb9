use Rattle.account_text.proofs.Texts.{one_account_of}
use Rattle.account_text.proofs.law.lemma_one_account_of_a_text.Goals as goal

pub returns : goal.returns
returns c = one_account_of c.lemma_one_account.ensures
