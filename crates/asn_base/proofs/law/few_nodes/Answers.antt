use Rattle.asn_base.proofs.Schemas.{few_nodes, is_value}
use Rattle.asn_base.proofs.law.few_nodes.Goals as goal

pub returns : goal.returns
returns c = record { nodes = few_nodes; value = is_value }
