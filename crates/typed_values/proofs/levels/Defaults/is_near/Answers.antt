use Rattle.std.proofs.Common.{◌<◌, length, subst, sym}
use Rattle.resolve.specs.Program.{WrittenProgram}
use Rattle.typed_values.proofs.levels.Defaults.is_near.Goals as goal

pub loop-step-init : goal.loop-step-init
loop-step-init c =
    subst (λ (w : WrittenProgram). c.args.number < length w.program.values) (sym c.linked-linked.ensures) c.requires.inside

pub entry-requires-clause-known : goal.entry-requires-clause-known
entry-requires-clause-known c = c.requires.known.named
