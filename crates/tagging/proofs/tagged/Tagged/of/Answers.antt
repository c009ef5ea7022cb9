use Rattle.tagging.proofs.Taggings.{one_each}
use Rattle.tagging.proofs.tagged.Tagged.of.Goals as goal

pub invariant_of-result : goal.invariant_of-result
invariant_of-result c = (c.requires, one_each _ c.lemma_whole.ensures c.requires)
