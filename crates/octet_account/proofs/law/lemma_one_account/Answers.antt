use Rattle.octet_account.proofs.Kept.{one}
use Rattle.octet_account.proofs.law.lemma_one_account.Goals as goal

pub returns : goal.returns
returns c = one
