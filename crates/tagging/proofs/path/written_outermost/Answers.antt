use Rattle.std.proofs.Common.{Some, ap}
use Rattle.tagging.proofs.Paths.{written_exists}
use Rattle.tagging.proofs.path.written_outermost.Goals as goal

pub returns-in-Inside : goal.returns-in-Inside
returns-in-Inside c =
    let i = c.in-Inside.ensures in
    let u = written_exists c.args.columns.now.program.types _ c.lemma_whole.ensures i.there in
    record { path = _; written = i.tags u.0 u.1; is = ap Some c.label_of-in-Inside.ensures }
