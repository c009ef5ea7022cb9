use Rattle.std.proofs.Common.{arith, ◌≤◌, [], sym, ap, subst, ◌∙◌}
use Rattle.asn_base.specs.Typed.{IsValueWithoutNodes, nodes}
use Rattle.ber_reader.specs.Paths.{BeginsBefore}
use Rattle.ber_reader.specs.Judged.{piece}
use Rattle.encodings.specs.Rules.{Basic}
use Rattle.laws_reading.specs.TokensShow.{TokensShow}
use Rattle.views.specs.Tree.{value_of}
use Rattle.ber_reader.proofs.Plain.{fails, if_ok}
use Rattle.ber_reader.proofs.Leading.{before_wrong, path_alone}
use Rattle.ber_reader.proofs.place.before_wrong.Goals as goal

pub path_to_wrong-requires : goal.path_to_wrong-requires
path_to_wrong-requires c =
    let v = c.requires in
    let m = v.message in
    let few = c.message_laws.ensures.nodes c.args.code.now Basic c.args.id.index m.count m.value c.args.octets.now c.lemma_invariant.ensures m.is_encoded in
    let short = m.short in
    subst (λ q. nodes (value_of q) ≤ 16777216) (sym c.top-top.ensures) (subst (λ q. nodes q ≤ 16777216) (sym v.value) (omega (arith, few, short)))

pub returns-then-is_shown_value-clause-right : goal.returns-then-is_shown_value-clause-right
returns-then-is_shown_value-clause-right c = λ e. c.most_values.ensures e.short

pub returns-then-is_shown_value-clause-wrong : goal.returns-then-is_shown_value-clause-wrong
returns-then-is_shown_value-clause-wrong c = λ r n.
    let v = c.requires in
    let s = c.args.code.now in
    let t = c.args.id.index in
    let m = v.message in
    let same = (c.schema_laws.ensures.says_one s t m.count n.count m.value n.value c.args.octets.now c.lemma_invariant.ensures m.is_encoded n.is_encoded).0 in
    let sure = subst (λ q. IsValueWithoutNodes s t (value_of q)) c.top-top.ensures (c.is_shown_value.ensures.0 c.if-is_shown_value.true) in
    absurd (n.is_none (subst (IsValueWithoutNodes s t) (v.value ∙ same) sure))

pub returns-clause-right : goal.returns-clause-right
returns-clause-right c = λ e.
    let v = c.requires in
    let s = c.args.code.now in
    let t = c.args.id.index in
    let m = v.message in
    let same = (c.schema_laws.ensures.says_one s t m.count e.count m.value e.value c.args.octets.now c.lemma_invariant.ensures m.is_encoded e.is_encoded).0 in
    fails c.is_shown_value.result c.if-is_shown_value.false c.is_shown_value.ensures (subst (IsValueWithoutNodes s t) (sym (ap value_of c.top-top.ensures ∙ v.value ∙ same)) e.is_value)

pub returns-clause-wrong : goal.returns-clause-wrong
returns-clause-wrong c = λ r n.
    let v = c.requires in
    let s = c.args.code.now in
    let t = c.args.id.index in
    let m = v.message in
    let same = (c.schema_laws.ensures.says_one s t m.count n.count m.value n.value c.args.octets.now c.lemma_invariant.ensures m.is_encoded n.is_encoded).0 in
    let e = ap value_of c.top-top.ensures ∙ v.value ∙ same in
    let path = path_alone c.new-path.ensures.items (ap (piece t) e) (c.in_ok-path_to_wrong.ensures (λ w. fails c.is_shown_value.result c.if-is_shown_value.false c.is_shown_value.ensures w.shaped)) in
    let emitted = r.last.emitted in
    let last = ap (λ q. q.emitted) (sym (v.one r)) in
    let shown = subst (λ w. TokensShow s t w emitted) same (subst (TokensShow s t m.value) last m.shown) in
    if_ok c.begun_before.result
    (λ k b. before_wrong path shown (subst (λ z. BeginsBefore z [] emitted k) c.as_slice.ensures.value b))
    (c.begun_before.ensures r n.short)
