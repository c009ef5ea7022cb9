use Rattle.std.proofs.Common.{subst}
use Rattle.std.specs.Prelude.{IfErr}
use Rattle.asnc.specs.Kits.{Opened}
use Rattle.asnc.specs.Showing.{IsNotShownAs}
use Rattle.asnc.proofs.kit.Kit.show.Goals as goal

pub returns-clause-refused : goal.returns-clause-refused
returns-clause-refused c =
    subst (λ (k : Opened). IfErr c.shown_as.result (IsNotShownAs k.program c.args.ty.now)) c.self.view_is c.shown_as.ensures.refused
