use Rattle.text.proofs.Spans.{lemma_spans_in_order}
use Rattle.text.proofs.law.lemma_spans_in_order.Goals as goal

pub returns : goal.returns
returns c = lemma_spans_in_order
