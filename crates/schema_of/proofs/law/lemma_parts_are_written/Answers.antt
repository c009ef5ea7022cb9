use Rattle.schema_of.proofs.Lists.{item_written, groups_alike, written_alternative}
use Rattle.schema_of.proofs.law.lemma_parts_are_written.Goals as goal

pub returns : goal.returns
returns c = record { items = item_written; groups = groups_alike; alternatives = written_alternative }
