use Rattle.primitive_writer.proofs.Octet.{cleared_1, cleared_2, cleared_3}
use Rattle.primitive_writer.proofs.bits.cleared.Goals as goal

pub returns-in-1 : goal.returns-in-1
returns-in-1 c = cleared_1 c.args.octet c.args.unused c.in-1.is c.ranges.octet.fits

pub returns-in-2 : goal.returns-in-2
returns-in-2 c = cleared_2 c.args.octet c.args.unused c.in-2.is c.ranges.octet.fits

pub returns-in-3 : goal.returns-in-3
returns-in-3 c = cleared_3 c.args.octet c.args.unused c.in-3.is c.ranges.octet.fits
