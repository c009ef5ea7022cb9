use Rattle.octet_account.proofs.Within.{within}
use Rattle.octet_account.proofs.law.lemma_accounts_within_bounds.Goals as goal

pub returns : goal.returns
returns c = λ s t v o a i b l d. within s i t v o a b l d
