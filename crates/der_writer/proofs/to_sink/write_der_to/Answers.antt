use Rattle.std.proofs.Common.{subst}
use Rattle.asn_base.specs.Abstract.{abstract}
use Rattle.encodings.specs.Account.{Describes}
use Rattle.sinks.specs.Sent.{SentAll, state}
use Rattle.der_writer.proofs.First.{first_row}
use Rattle.der_writer.proofs.to_sink.write_der_to.Goals as goal

pub returns-in-Ok-send_all-clause-sent : goal.returns-in-Ok-send_all-clause-sent
returns-in-Ok-send_all-clause-sent g c =
    let s = c.args.code.now in
    let t = c.args.id.index in
    let v = abstract c.args.value.now in
    let o = c.in-Ok.encoded.octets.items in
    let e = c.in-Ok.ensures in
    let h = e.account in
    let one = c.lemma_one_account.ensures h.0 c.of.result _ h.2 c.of.ensures in
    let describes = subst (λ q. Describes s t v o q) one h.1 in
    let a = state (g.S.Sink.taken c.args.sink.now) (g.S.Sink.failed c.args.sink.now) in
    let b = state (g.S.Sink.taken c.send_all.new.sink) (g.S.Sink.failed c.send_all.new.sink) in
    record {
      octets = o;
      encoding = c.lemma_encodings_of_values.ensures s t v o c.lemma_invariant.ensures e.value e.der e.not_too_long;
      describes = describes;
      told = first_row describes;
      sent = subst (λ q. SentAll a b q) c.as_slice.ensures.value c.in-Ok-send_all.ensures.ok;
    }
