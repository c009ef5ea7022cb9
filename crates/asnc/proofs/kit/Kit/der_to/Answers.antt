use Rattle.std.proofs.Common.{refl, subst}
use Rattle.asn_base.specs.Abstract.{abstract}
use Rattle.sinks.specs.Sent.{state}
use Rattle.der_writer.specs.Encoded.{WentInPart}
use Rattle.asnc.specs.Kits.{Opened}
use Rattle.asnc.proofs.kit.Kit.der_to.Goals as goal

pub returns-in-Err-Device-clause-device : goal.returns-in-Err-Device-clause-device
returns-in-Err-Device-clause-device g c = λ n e.
    let before = state (g.S.Sink.taken c.args.sink.now) (g.S.Sink.failed c.args.sink.now) in
    let after = state (g.S.Sink.taken c.write_der_to.new.sink) (g.S.Sink.failed c.write_der_to.new.sink) in
    let t = c.in-Ok.found.0.index in
    let v = abstract c.in-Ok.found.1 in
    let same = c.in-Err-Device.count-is in
    let told = c.in-Err-Device.field-0-is in
    record {
      type = t;
      value = v;
      meant = c.in-Ok.ensures.meant;
      went = subst (λ (k : Opened). WentInPart k.types t v before after n) c.self.view_is (c.in-Err-Device.ensures.device n cc);
    }

pub returns-in-Err-Device-clause-refused : goal.returns-in-Err-Device-clause-refused
returns-in-Err-Device-clause-refused g c = λ h. absurd (h c.in-Err-Device.count refl)
