use Rattle.resolve.proofs.Assembling.{Laws}
use Rattle.resolve.proofs.Whole.{one_meaning, whole}
use Rattle.resolve.proofs.law.linked.Goals as goal

pub returns-clause-meaning : goal.returns-clause-meaning
returns-clause-meaning c = λ ms p l. one_meaning ms p (c.lemma_apart.ensures ms l.named.names) l

pub returns-clause-whole : goal.returns-clause-whole
returns-clause-whole c = λ ms p l.
    let law : Laws = record {
      roots = c.lemma_numbered_there.ensures.roots;
      stand = c.lemma_numbered_there.ensures.assigned;
      closed = c.lemma_numbered_linked.ensures.closed;
      linked = c.lemma_numbered_linked.ensures.linked;
    } in
    whole law ms p l (c.lemma_all_there.ensures ms)
