use Rattle.asn_base.proofs.Ruled.{schema_of_rules, rules_of_schema, one_fault}
use Rattle.asn_base.proofs.law.lemma_schema_rules.Goals as goal

pub returns : goal.returns
returns c = record { schema = schema_of_rules; rules = rules_of_schema; one_fault = one_fault }
