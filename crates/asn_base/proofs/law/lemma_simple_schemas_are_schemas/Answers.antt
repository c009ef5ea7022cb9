use Rattle.asn_base.proofs.Schemas.{is_schema}
use Rattle.asn_base.proofs.law.lemma_simple_schemas_are_schemas.Goals as goal

pub returns : goal.returns
returns c = is_schema
