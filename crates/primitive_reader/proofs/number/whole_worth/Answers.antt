use Rattle.encodings.specs.proving.TwosComplement.{worth_within}
use Rattle.primitive_reader.proofs.Few.{few_within}
use Rattle.primitive_reader.proofs.number.whole_worth.Goals as goal

pub short_worth-requires : goal.short_worth-requires
short_worth-requires c = few_within c.args.octets.now c.are_octets.ensures c.if-octets-le-FEW.true

pub worth-requires : goal.worth-requires
worth-requires c = worth_within c.args.octets.now c.are_octets.ensures c.requires
