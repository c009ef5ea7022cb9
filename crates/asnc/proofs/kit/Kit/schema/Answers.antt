use Rattle.std.proofs.Common.{ap, ◌∙◌}
use Rattle.asnc.specs.Kits.{Opened}
use Rattle.asnc.proofs.kit.Kit.schema.Goals as goal

pub returns : goal.returns
returns c = c.self.invariant.1 ∙ ap (λ (k : Opened). k.types) c.self.view_is
