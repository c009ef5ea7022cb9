use Rattle.octets.proofs.OneFront.{only_of}
use Rattle.octets.proofs.read.read_header.Goals as goal

pub returns-clause-only : goal.returns-clause-only
returns-clause-only c = only_of c.header_at.result c.args.octets.now c.lemma_one_front.ensures.either c.header_at.ensures.err
