use Rattle.asn_base.proofs.NoGroups.{no_groups}
use Rattle.asn_base.proofs.law.lemma_without_groups.Goals as goal

pub returns : goal.returns
returns c = no_groups
