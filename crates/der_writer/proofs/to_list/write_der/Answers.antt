use Rattle.std.proofs.Common.{subst}
use Rattle.asn_base.specs.Abstract.{abstract}
use Rattle.encodings.specs.Account.{Describes}
use Rattle.der_writer.proofs.to_list.write_der.Goals as goal

pub returns-in-Ok-clause-account : goal.returns-in-Ok-clause-account
returns-in-Ok-clause-account c =
    let s = c.args.code.now in
    let t = c.args.id.index in
    let v = abstract c.args.value.now in
    let h = c.in-Ok.ensures.account in
    let one = c.lemma_one_account.ensures h.0 c.of.result _ h.2 c.of.ensures in
    subst (λ a. Describes s t v c.in-Ok.encoded.octets.items a) one h.1
