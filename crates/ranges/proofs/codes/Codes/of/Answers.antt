use Rattle.ranges.proofs.Tables.{characters_are}
use Rattle.ranges.proofs.codes.Codes.of.Goals as goal

pub returns : goal.returns
returns c x = characters_are c.characters.result c.args.kind c.characters.ensures x
