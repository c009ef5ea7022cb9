use Rattle.extensions.proofs.CoreKinds.{utf8_core}
use Rattle.extensions.proofs.simple.utf8_string.Goals as goal

pub returns-in-Ok : goal.returns-in-Ok
returns-in-Ok c M =
    utf8_core c.args.bounded.now.program c.args.ty.index M _ c.requires.is (c.in-Ok.ensures _ c.requires.is)
