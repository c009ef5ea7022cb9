use Rattle.notation.proofs.Answered.{are_tokens}
use Rattle.notation.proofs.law.lemma_lexed_tokens.Goals as goal

pub returns : goal.returns
returns c = are_tokens c.lemma_spans_within.ensures
