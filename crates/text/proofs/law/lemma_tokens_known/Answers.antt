use Rattle.text.proofs.Known.{lemma_tokens_known}
use Rattle.text.proofs.law.lemma_tokens_known.Goals as goal

pub returns : goal.returns
returns c = lemma_tokens_known
