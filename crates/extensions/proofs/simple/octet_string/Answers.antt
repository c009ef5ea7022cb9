use Rattle.extensions.proofs.CoreKinds.{octets_core}
use Rattle.extensions.proofs.simple.octet_string.Goals as goal

pub returns-in-Ok : goal.returns-in-Ok
returns-in-Ok c M =
    octets_core c.args.bounded.now.program c.args.ty.index M _ c.requires.is (c.in-Ok.ensures _ c.requires.is)
