use Rattle.asnc.proofs.NoTypes.{not_read}
use Rattle.asnc.proofs.reading.read_as.Goals as goal

pub returns-in-Err-clause-refused : goal.returns-in-Err-clause-refused
returns-in-Err-clause-refused c = not_read c.args.types.modules.now c.args.types.code.now _ c.args.ty.now c.args.octets.now _ c.in-Err.ensures.refused
