use Rattle.std.proofs.Common.{sym}
use Rattle.tagging.proofs.Fronts.{head_written, head_numbered}
use Rattle.tagging.proofs.automatic.head.Goals as goal

pub returns-in-None : goal.returns-in-None
returns-in-None c = head_written c.args.columns.now.program.types c.args.ty c.written_outermost.result (sym c.in-None.ensures) c.written_outermost.ensures

pub returns-in-Some : goal.returns-in-Some
returns-in-Some c = head_numbered c.args.columns.now.program.types c.args.ty c.in-Some.number c.lemma_whole.ensures c.requires.there (sym c.in-Some.ensures)
