use Rattle.primitive_writer.proofs.TwosComplement.{three_number}
use Rattle.primitive_writer.proofs.short.three_octets.Goals as goal

pub returns : goal.returns
returns c = three_number c.args.number c.requires.least c.requires.most
