use Rattle.asn_base.proofs.DepthLaws.{more_levels}
use Rattle.asn_base.proofs.law.lemma_levels_grow.Goals as goal

pub returns : goal.returns
returns c = more_levels
