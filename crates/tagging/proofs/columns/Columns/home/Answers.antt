use Rattle.std.proofs.Common.{ap}
use Rattle.resolve.specs.Program.{WrittenProgram}
use Rattle.tagging.proofs.Paths.{there}
use Rattle.tagging.proofs.Tables.{stands_home}
use Rattle.tagging.proofs.columns.Columns.home.Goals as goal

pub returns : goal.returns
returns c =
    let t = there c.args.self.now.program.types c.args.ty c.requires in
    stands_home c.args.self.now.program c.self.inside.linked.now.program c.args.ty t.type _ _ (ap (λ (q : WrittenProgram). q.program) c.self.view_is) t.found c.home.ensures
