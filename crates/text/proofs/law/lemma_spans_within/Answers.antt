use Rattle.text.proofs.Spans.{lemma_spans_within}
use Rattle.text.proofs.law.lemma_spans_within.Goals as goal

pub returns : goal.returns
returns c = lemma_spans_within
