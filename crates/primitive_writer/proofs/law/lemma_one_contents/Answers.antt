use Rattle.primitive_writer.proofs.One.{one_of}
use Rattle.primitive_writer.proofs.law.lemma_one_contents.Goals as goal

pub returns : goal.returns
returns c = one_of c.leaf_laws.ensures.one
