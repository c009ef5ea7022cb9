use Rattle.std.proofs.Common.{arith, ◌≡◌, false, length, refl, sym, ap, subst, ◌∙◌}
use Rattle.std.specs.Prelude.{Some}
use Rattle.asn_base.specs.Abstract.{octets}
use Rattle.encodings.specs.Rules.{Basic}
use Rattle.encodings.specs.Contents.{Contents}
use Rattle.encodings.specs.Leaves.{plain}
use Rattle.primitive_reader.specs.Leaves.{Denotes, bits_but}
use Rattle.views.specs.Tree as tree
use Rattle.ber_source.proofs.Leaves.{denotes_of, bits_whole, octets_whole, text_whole, then_ok}
use Rattle.ber_source.proofs.leaf.push_whole.Goals as goal

pub push_bits-requires-clause-whole : goal.push_bits-requires-clause-whole
push_bits-requires-clause-whole c =
    let r = c.requires.read in
    let k = c.args.held.kind in
    let x = c.args.held.octets.now in
    let means = subst (λ q. Denotes q r.value) c.in-Bits.is r.means in
    (bits_but c.in-Bits.field-0 c.in-Bits.field-1.now, bits_whole (subst (λ q. Contents Basic (plain k) q false x) means r.is_read.contents))

pub returns-in-Bits : goal.returns-in-Bits
returns-in-Bits c v b h e =
    let k = c.args.held.kind in
    let x = c.args.held.octets.now in
    let means = subst (λ q. Denotes q v) c.in-Bits.is (denotes_of (λ w u p q. c.lemma_one_reading.ensures.value k w u x p q) h c.requires.read) in
    then_ok c.push_bits.result (λ q. (q.0, q.1 ∙ sym means, q.2, q.3))
    (c.push_bits.ensures (bits_but c.in-Bits.field-0 c.in-Bits.field-1.now) b (bits_whole (subst (λ q. Contents Basic (plain k) q false x) means h.contents.contents)) e)

pub returns-in-Octets : goal.returns-in-Octets
returns-in-Octets c v b h e =
    let k = c.args.held.kind in
    let x = c.args.held.octets.now in
    let means = subst (λ q. Denotes q v) c.in-Octets.is (denotes_of (λ w u p q. c.lemma_one_reading.ensures.value k w u x p q) h c.requires.read) in
    let whole = octets_whole (subst (λ q. Contents Basic (plain k) q false x) means h.contents.contents) in
    then_ok c.push_octets.result (λ q. (tree.octets x (Some c.args.held.at), sym (means ∙ ap octets whole), (refl, refl), q)) (c.push_octets.ensures b e)

pub returns-in-Text : goal.returns-in-Text
returns-in-Text c v b h e =
    let k = c.args.held.kind in
    let x = c.args.held.octets.now in
    let means = subst (λ q. Denotes q v) c.in-Text.is (denotes_of (λ w u p q. c.lemma_one_reading.ensures.value k w u x p q) h c.requires.read) in
    let whole = text_whole (subst (λ q. Contents Basic (plain k) q false x) means h.contents.contents) in
    then_ok c.push_text.result (λ q. (tree.text c.in-Text.text.now (Some c.args.held.at), sym means, (whole, refl), q)) (c.push_text.ensures b e)

pub returns-in_ok-object_arcs-in-Oid : goal.returns-in_ok-object_arcs-in-Oid
returns-in_ok-object_arcs-in-Oid c v b h e =
    let k = c.args.held.kind in
    let x = c.args.held.octets.now in
    let old = c.args.builder.now.lists.arcs in
    let means = subst (λ q. Denotes q v) c.in-Oid.is (denotes_of (λ w u p q. c.lemma_one_reading.ensures.value k w u x p q) h c.requires.read) in
    let added = c.in_ok-object_arcs-in-Oid.ensures means.0 means.2 means.3 in
    let from : c.len-from.result ≡ length old.items = omega (arith, c.len-from.ensures, old.ok.0) in
    then_ok c.push_oid.result (λ q. (tree.oid means.0, sym means.1, tt, q)) (c.push_oid.ensures b old.items means.0 e added from)

pub returns-in_ok-relative_arcs-in-RelativeOid : goal.returns-in_ok-relative_arcs-in-RelativeOid
returns-in_ok-relative_arcs-in-RelativeOid c v b h e =
    let k = c.args.held.kind in
    let x = c.args.held.octets.now in
    let old = c.args.builder.now.lists.arcs in
    let means = subst (λ q. Denotes q v) c.in-RelativeOid.is (denotes_of (λ w u p q. c.lemma_one_reading.ensures.value k w u x p q) h c.requires.read) in
    let added = c.in_ok-relative_arcs-in-RelativeOid.ensures means.0 means.2 means.3 in
    let from : c.len-from-in-RelativeOid.result ≡ length old.items = omega (arith, c.len-from-in-RelativeOid.ensures, old.ok.0) in
    then_ok c.push_relative_oid.result (λ q. (tree.relative_oid means.0, sym means.1, tt, q)) (c.push_relative_oid.ensures b old.items means.0 e added from)
