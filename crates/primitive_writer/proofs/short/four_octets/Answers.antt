use Rattle.primitive_writer.proofs.TwosComplement.{four_number}
use Rattle.primitive_writer.proofs.short.four_octets.Goals as goal

pub returns : goal.returns
returns c = four_number c.args.number c.requires.least c.requires.most
