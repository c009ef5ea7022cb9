use Rattle.primitive_reader.proofs.Few.{few_turned}
use Rattle.primitive_reader.proofs.Shortest.{turned_within}
use Rattle.primitive_reader.proofs.number.whole_turned.Goals as goal

pub short_turned-requires : goal.short_turned-requires
short_turned-requires c = few_turned c.args.octets.now c.if-octets-le-FEW.true

pub turned_worth-requires : goal.turned_worth-requires
turned_worth-requires c = turned_within c.args.octets.now c.requires
