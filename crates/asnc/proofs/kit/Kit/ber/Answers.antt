use Rattle.std.proofs.Common.{subst}
use Rattle.std.specs.Prelude.{IfErr}
use Rattle.asnc.specs.Kits.{Opened}
use Rattle.asnc.specs.Reading.{IsNotReadAs, rules_of}
use Rattle.asnc.proofs.kit.Kit.ber.Goals as goal

pub returns-clause-refused : goal.returns-clause-refused
returns-clause-refused c =
    subst (λ (k : Opened). IfErr c.read_as.result (IsNotReadAs k.program k.types (rules_of c.args.rules) c.args.ty.now c.args.octets.now)) c.self.view_is c.read_as.ensures.refused
