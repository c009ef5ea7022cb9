use Rattle.std.proofs.Common.{◌≡◌, subst}
use Rattle.std.specs.Prelude.{IfErr, IfOk}
use Rattle.decode_faults.specs.declared.read_fault.ReadFault.TheVariants.{Memory}
use Rattle.asnc.specs.Reading.{IsReadBy, IsReadFault, rules_of}
use Rattle.asnc.specs.Kits.{Opened}
use Rattle.asnc.proofs.kit.Kit.decode.Goals as goal

pub returns-clause-read : goal.returns-clause-read
returns-clause-read c =
    subst (λ (k : Opened). IfOk c.read_by.result
    (IsReadBy k.types (rules_of c.args.rules) c.args.id.index c.args.octets.now))
    c.self.view_is c.read_by.ensures.read

pub returns-clause-refused : goal.returns-clause-refused
returns-clause-refused c =
    subst (λ (k : Opened). IfErr c.read_by.result (λ e. (e ≡ Memory → ⊥) →
    IsReadFault k.types (rules_of c.args.rules) c.args.id.index c.args.octets.now e))
    c.self.view_is c.read_by.ensures.refused
