use Rattle.std.proofs.Common.{ap, ◌∙◌}
use Rattle.resolve.specs.Program.{WrittenProgram}
use Rattle.additions.specs.Additions.{KeepAdditions}
use Rattle.additions.proofs.Naming.{of_text}
use Rattle.additions.proofs.check.check.Goals as goal

pub returns : goal.returns
returns c =
    let ts = c.args.tagged.now.program.types in
    of_text ts c.types.result.now c.args.tagged.now.types (KeepAdditions ts) c.check_all.result
    (c.types.ensures.written ∙ ap (λ (w : WrittenProgram). w.types) c.linked.ensures.value)
    c.check_all.ensures
