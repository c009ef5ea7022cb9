use Rattle.packed_encodings.proofs.Weighing.{few_nodes}
use Rattle.packed_encodings.proofs.packing_law.weight_laws.Goals as goal

pub returns : goal.returns
returns c = few_nodes
