use Rattle.primitive_reader.proofs.Characters.{are_utf8}
use Rattle.primitive_reader.proofs.text.read_restricted.Goals as goal

pub returns-in-None-clause-none : goal.returns-in-None-clause-none
returns-in-None-clause-none c = λ a. c.in-None.ensures.none (are_utf8 c.args.kind c.args.octets.now a)
