use Rattle.std.proofs.Common.{◌≡◌, ◌<◌, subst, Err}
use Rattle.std.specs.Prelude.{IfErr, IfOk}
use Rattle.asn_base.specs.Abstract.{abstract}
use Rattle.asn_base.specs.Typed.{IsValue}
use Rattle.packed_encodings.specs.Weights.{weight}
use Rattle.packed_writer.specs.Message.{IsMessage, IsTooLong}
use Rattle.packed_writer.specs.declared.fault.WriteFault.TheVariants.{NotOfType, TooLong}
use Rattle.asnc.specs.Kits.{Opened}
use Rattle.asnc.proofs.kit.Kit.pack.Goals as goal

pub returns-clause-message : goal.returns-clause-message
returns-clause-message c =
    subst (λ (k : Opened). IfOk c.write_uper.result (λ o. IsMessage k.types c.args.id.index (abstract c.args.value.now) o.items))
    c.self.view_is
    (subst (λ s. IfOk c.write_uper.result (λ o. IsMessage s c.args.id.index (abstract c.args.value.now) o.items))
    c.self.invariant.2 c.write_uper.ensures.message)

pub returns-clause-not_of_type : goal.returns-clause-not_of_type
returns-clause-not_of_type c =
    subst (λ (k : Opened). IfErr c.write_uper.result (λ e. e ≡ NotOfType → IsValue k.types c.args.id.index (abstract c.args.value.now) → ⊥))
    c.self.view_is
    (subst (λ s. IfErr c.write_uper.result (λ e. e ≡ NotOfType → IsValue s c.args.id.index (abstract c.args.value.now) → ⊥))
    c.self.invariant.2 c.write_uper.ensures.not_of_type)

pub returns-clause-no_value : goal.returns-clause-no_value
returns-clause-no_value c =
    subst (λ (k : Opened). (IsValue k.types c.args.id.index (abstract c.args.value.now) → ⊥) → c.write_uper.result ≡ Err NotOfType)
    c.self.view_is
    (subst (λ s. (IsValue s c.args.id.index (abstract c.args.value.now) → ⊥) → c.write_uper.result ≡ Err NotOfType)
    c.self.invariant.2 c.write_uper.ensures.no_value)

pub returns-clause-longer : goal.returns-clause-longer
returns-clause-longer c =
    subst (λ (k : Opened). IfErr c.write_uper.result (λ e. e ≡ TooLong → IsTooLong k.types c.args.id.index (abstract c.args.value.now)))
    c.self.view_is
    (subst (λ s. IfErr c.write_uper.result (λ e. e ≡ TooLong → IsTooLong s c.args.id.index (abstract c.args.value.now)))
    c.self.invariant.2 c.write_uper.ensures.longer)

pub returns-clause-heavy : goal.returns-clause-heavy
returns-clause-heavy c =
    subst (λ (k : Opened). IsValue k.types c.args.id.index (abstract c.args.value.now) → 16777216 < weight (abstract c.args.value.now) → c.write_uper.result ≡ Err TooLong)
    c.self.view_is
    (subst (λ s. IsValue s c.args.id.index (abstract c.args.value.now) → 16777216 < weight (abstract c.args.value.now) → c.write_uper.result ≡ Err TooLong)
    c.self.invariant.2 c.write_uper.ensures.heavy)
