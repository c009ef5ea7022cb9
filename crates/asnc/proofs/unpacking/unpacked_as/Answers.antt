use Rattle.asnc.proofs.NoTypes.{not_unpacked}
use Rattle.asnc.proofs.unpacking.unpacked_as.Goals as goal

pub returns-in-Err-clause-refused : goal.returns-in-Err-clause-refused
returns-in-Err-clause-refused c = not_unpacked c.args.types.modules.now c.args.types.code.now c.args.ty.now c.args.octets.now _ c.in-Err.ensures.refused
