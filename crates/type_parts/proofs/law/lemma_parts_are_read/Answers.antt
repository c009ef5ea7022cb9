use Rattle.type_parts.proofs.law.lemma_parts_are_read.Goals as goal

pub returns : goal.returns
returns c = record {
  values = c.lemma_values_are_read.ensures;
  constraints = c.lemma_constraints_are_read.ensures.read;
  constraints_grow = c.lemma_constraints_are_read.ensures.grows;
  sizes = c.lemma_sizes_are_read.ensures.read;
  sizes_grow = c.lemma_sizes_are_read.ensures.grows;
}
