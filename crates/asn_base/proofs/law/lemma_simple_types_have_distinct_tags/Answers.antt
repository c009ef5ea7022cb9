use Rattle.asn_base.proofs.Schemas.{all_tagged, all_tags_distinct}
use Rattle.asn_base.proofs.law.lemma_simple_types_have_distinct_tags.Goals as goal

pub returns : goal.returns
returns c = record { tagged = all_tagged; distinct_tags = all_tags_distinct }
