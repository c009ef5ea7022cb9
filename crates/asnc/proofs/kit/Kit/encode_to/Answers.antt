use Rattle.std.proofs.Common.{◌≡◌, ◌<◌, subst, ℕ, List, length, Err}
use Rattle.std.specs.Prelude.{IfErr, IfOk}
use Rattle.asn_base.specs.Abstract.{abstract}
use Rattle.asn_base.specs.Typed.{IsValue}
use Rattle.sinks.specs.Sent.{state}
use Rattle.der_writer.specs.Encoded.{Went, WentInPart}
use Rattle.der_writer.specs.declared.fault.WriteFault.TheVariants.{Device, NotOfType, TooLong}
use Rattle.encodings.specs.Encoding.{Der}
use Rattle.asnc.specs.Kits.{Opened}
use Rattle.asnc.proofs.kit.Kit.encode_to.Goals as goal

pub returns-clause-sent : goal.returns-clause-sent
returns-clause-sent g c =
    let before = state (g.S.Sink.taken c.args.sink.now) (g.S.Sink.failed c.args.sink.now) in
    let after = state (g.S.Sink.taken c.write_der_to.new.sink) (g.S.Sink.failed c.write_der_to.new.sink) in
    subst (λ (k : Opened). IfOk c.write_der_to.result (λ account.
    Went k.types c.args.id.index (abstract c.args.value.now) before after account))
    c.self.view_is c.write_der_to.ensures.sent

pub returns-clause-device : goal.returns-clause-device
returns-clause-device g c =
    let before = state (g.S.Sink.taken c.args.sink.now) (g.S.Sink.failed c.args.sink.now) in
    let after = state (g.S.Sink.taken c.write_der_to.new.sink) (g.S.Sink.failed c.write_der_to.new.sink) in
    subst (λ (k : Opened). IfErr c.write_der_to.result (λ e. (n : ℕ) → e ≡ Device n →
    WentInPart k.types c.args.id.index (abstract c.args.value.now) before after n))
    c.self.view_is c.write_der_to.ensures.device

pub returns-clause-not_of_type : goal.returns-clause-not_of_type
returns-clause-not_of_type g c =
    subst (λ (k : Opened). IfErr c.write_der_to.result (λ e. e ≡ NotOfType →
    IsValue k.types c.args.id.index (abstract c.args.value.now) → ⊥))
    c.self.view_is c.write_der_to.ensures.not_of_type

pub returns-clause-no_value : goal.returns-clause-no_value
returns-clause-no_value g c =
    subst (λ (k : Opened). (IsValue k.types c.args.id.index (abstract c.args.value.now) → ⊥) →
    c.write_der_to.result ≡ Err NotOfType)
    c.self.view_is c.write_der_to.ensures.no_value

pub returns-clause-longer : goal.returns-clause-longer
returns-clause-longer g c =
    subst (λ (k : Opened). IfErr c.write_der_to.result (λ e. e ≡ TooLong → (o : List ℕ) →
    Der k.types c.args.id.index (abstract c.args.value.now) 0 o → 16777216 < length o))
    c.self.view_is c.write_der_to.ensures.longer
