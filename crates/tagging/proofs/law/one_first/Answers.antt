use Rattle.tagging.proofs.Taggings.{one_each}
use Rattle.tagging.proofs.law.one_first.Goals as goal

pub returns : goal.returns
returns c = one_each
