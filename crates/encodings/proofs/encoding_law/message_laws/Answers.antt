use Rattle.encodings.proofs.Nodes.{few_nodes, message_value}
use Rattle.encodings.proofs.encoding_law.message_laws.Goals as goal

pub returns : goal.returns
returns c = record { nodes = few_nodes; value = message_value }
