use Rattle.std.proofs.Common.{map}
use Rattle.trees.specs.Types.{numbered_name}
use Rattle.extensions.proofs.CoreKinds.{integer_core}
use Rattle.extensions.proofs.simple.integer.Goals as goal

pub returns-in-Ok : goal.returns-in-Ok
returns-in-Ok c M =
    integer_core c.args.bounded.now.program c.args.ty.index M (map numbered_name c.args.numbers.now) _ c.requires.is (c.in-Ok.ensures _ c.requires.is)
