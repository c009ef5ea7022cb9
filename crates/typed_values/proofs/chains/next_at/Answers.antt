use Rattle.trees.specs.Values.{tree_of}
use Rattle.typed_values.proofs.chains.next_at.Goals as goal

pub returns : goal.returns
returns c = record {
  within = c.notation_at.result.0.now;
  notation = tree_of c.notation_at.result.1.now;
  there = c.notation_at.ensures.is_so;
  reports = c.next_of.ensures;
}
