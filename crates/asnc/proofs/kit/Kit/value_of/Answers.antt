use Rattle.std.proofs.Common.{subst}
use Rattle.std.specs.Prelude.{IfErr}
use Rattle.asnc.specs.Kits.{Opened}
use Rattle.judging.specs.named_values.Given.{as_given}
use Rattle.judging.specs.named_values.Meant.{IsNotMeant}
use Rattle.asnc.proofs.kit.Kit.value_of.Goals as goal

pub returns-clause-refused : goal.returns-clause-refused
returns-clause-refused c =
    subst (λ (k : Opened). IfErr c.meant.result (IsNotMeant k.program c.args.ty.now (as_given c.args.value))) c.self.view_is c.meant.ensures.refused
