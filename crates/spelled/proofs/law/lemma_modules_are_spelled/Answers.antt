use Rattle.spelled.proofs.Moduling.{module_spelled}
use Rattle.spelled.proofs.law.lemma_modules_are_spelled.Goals as goal

pub returns : goal.returns
returns c text tokens limits m h i = module_spelled limits text tokens m (c.lemma_tokens_known.ensures text tokens h.text h.limits) i
