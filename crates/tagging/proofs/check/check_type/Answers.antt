use Rattle.tagging.proofs.Firsts.{of_broken, of_shape}
use Rattle.tagging.proofs.check.check_type.Goals as goal

pub returns-in-Some-clause-first : goal.returns-in-Some-clause-first
returns-in-Some-clause-first c =
    of_broken c.args.columns.now.program.types c.args.types.now c.args.ty c.args.written.now c.in-Some.rule c.in-Some.ensures.first

pub returns-in-Err-clause-first : goal.returns-in-Err-clause-first
returns-in-Err-clause-first c =
    of_shape c.args.columns.now.program.types c.args.types.now c.args.ty c.args.written.now c.in-Err.fault c.in-None.ensures.found.0
    c.in-None.ensures.found.1 c.in-Err.ensures.first
