use Rattle.primitive_writer.proofs.TwosComplement.{two_number}
use Rattle.primitive_writer.proofs.short.two_octets.Goals as goal

pub returns : goal.returns
returns c = two_number c.args.number c.requires.least c.requires.most
