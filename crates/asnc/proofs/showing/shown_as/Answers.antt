use Rattle.asnc.proofs.NoTypes.{not_shown}
use Rattle.asnc.proofs.showing.shown_as.Goals as goal

pub returns-in-Err-clause-refused : goal.returns-in-Err-clause-refused
returns-in-Err-clause-refused c = not_shown c.args.types.modules.now c.args.ty.now _ c.in-Err.ensures.refused
