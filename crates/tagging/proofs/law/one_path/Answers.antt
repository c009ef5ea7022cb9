use Rattle.tagging.proofs.Taggings.{tags_exist}
use Rattle.tagging.proofs.Fronts.{tags_unique}
use Rattle.tagging.proofs.law.one_path.Goals as goal

pub returns-clause-exists : goal.returns-clause-exists
returns-clause-exists c = tags_exist

pub returns-clause-unique : goal.returns-clause-unique
returns-clause-unique c = tags_unique
