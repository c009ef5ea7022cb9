use Rattle.std.proofs.Common.{◌≡◌, ◌<◌, subst, ℕ, List, length, Err}
use Rattle.std.specs.Prelude.{IfErr, IfOk}
use Rattle.asn_base.specs.Abstract.{abstract}
use Rattle.asn_base.specs.Typed.{IsValue}
use Rattle.der_writer.specs.Encoded.{IsEncoding}
use Rattle.der_writer.specs.declared.fault.WriteFault.TheVariants.{NotOfType, TooLong}
use Rattle.encodings.specs.Account.{Describes}
use Rattle.encodings.specs.Encoding.{Der}
use Rattle.asnc.specs.Kits.{Opened}
use Rattle.asnc.proofs.kit.Kit.encode.Goals as goal

pub returns-clause-encoding : goal.returns-clause-encoding
returns-clause-encoding c =
    subst (λ (k : Opened). IfOk c.write_der.result (λ w. IsEncoding k.types c.args.id.index (abstract c.args.value.now) w.0.items))
    c.self.view_is c.write_der.ensures.encoding

pub returns-clause-account : goal.returns-clause-account
returns-clause-account c =
    subst (λ (k : Opened). IfOk c.write_der.result (λ w. Describes k.types c.args.id.index (abstract c.args.value.now) w.0.items w.1))
    c.self.view_is c.write_der.ensures.account

pub returns-clause-not_of_type : goal.returns-clause-not_of_type
returns-clause-not_of_type c =
    subst (λ (k : Opened). IfErr c.write_der.result (λ e. e ≡ NotOfType → IsValue k.types c.args.id.index (abstract c.args.value.now) → ⊥))
    c.self.view_is c.write_der.ensures.not_of_type

pub returns-clause-no_value : goal.returns-clause-no_value
returns-clause-no_value c =
    subst (λ (k : Opened). (IsValue k.types c.args.id.index (abstract c.args.value.now) → ⊥) → c.write_der.result ≡ Err NotOfType)
    c.self.view_is c.write_der.ensures.no_value

pub returns-clause-longer : goal.returns-clause-longer
returns-clause-longer c =
    subst (λ (k : Opened). IfErr c.write_der.result (λ e. e ≡ TooLong → (o : List ℕ) →
    Der k.types c.args.id.index (abstract c.args.value.now) 0 o → 16777216 < length o))
    c.self.view_is c.write_der.ensures.longer
