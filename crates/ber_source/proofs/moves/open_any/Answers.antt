use Rattle.std.proofs.Common.{rules, arith, inl, inr, ◌≡◌, sym, ap, subst, ◌∙◌}
use Rattle.octets.specs.declared.form.Form.TheVariants.{Primitive}
use Rattle.octet_answers.specs.Unanswered.{Leaves, no_header, too_many_headers, other_header}
use Rattle.octets.specs.Forms.{is_constructed}
use Rattle.codec_source.specs.Events.{to_open}
use Rattle.ber_source.specs.Seen.{state_of, outer_contents}
use Rattle.ber_source.proofs.Windows.{as_many, fails, false_true}
use Rattle.ber_source.proofs.moves.open_any.Goals as goal

pub returns-in-Err-clause-err : goal.returns-in-Err-clause-err
returns-in-Err-clause-err g c other b d = c.in-Err.ensures.none c.args.head.tag d.constructed d.count d.contents d.rest d.unit

pub returns-then-not-same_tag-clause-err : goal.returns-then-not-same_tag-clause-err
returns-then-not-same_tag-clause-err g c other b d =
    let u = c.lemma_one_unit.ensures.once c.in-Ok.unit.tag c.args.head.tag (is_constructed c.in-Ok.unit.form) d.constructed c.in-Ok.unit.count d.count c.in-Ok.unit.contents.now d.contents c.in-Ok.unit.rest.now d.rest c.args.place.now.here.octets.now c.in-Ok.ensures.ok d.unit in
    fails c.same_tag.result c.if-not-same_tag.true c.same_tag.ensures u.0

pub returns-then-eq-clause-err : goal.returns-then-eq-clause-err
returns-then-eq-clause-err g c other b d =
    let u = c.lemma_one_unit.ensures.once c.in-Ok.unit.tag c.args.head.tag (is_constructed c.in-Ok.unit.form) d.constructed c.in-Ok.unit.count d.count c.in-Ok.unit.contents.now d.contents c.in-Ok.unit.rest.now d.rest c.args.place.now.here.octets.now c.in-Ok.ensures.ok d.unit in
    let p : c.in-Ok.unit.form ≡ Primitive = search rules in
    false_true (sym (ap is_constructed p) ∙ u.1 ∙ d.form c.if-head.true)

pub returns-in-Err-clause-left : goal.returns-in-Err-clause-left
returns-in-Err-clause-left g c = λ other.
    let a = state_of g.T.TokenSink.tokens c.args.place.now in
    subst (λ q. Leaves a (to_open c.args.head) a q) (sym c.from_header_fault.ensures) (no_header c.in-Err.fault c.in-Err.ensures.err)

pub returns-then-len-ge-MAX_HEADERS-clause-left : goal.returns-then-len-ge-MAX_HEADERS-clause-left
returns-then-len-ge-MAX_HEADERS-clause-left g c = λ other.
    let m = as_many (outer_contents c.args.place.now.outer) in
    too_many_headers c.in-Ok.ensures.ok (omega (arith, m, c.len.ensures, c.if-len-ge-MAX_HEADERS.true))

pub returns-then-not-same_tag-clause-left : goal.returns-then-not-same_tag-clause-left
returns-then-not-same_tag-clause-left g c = λ other.
    let m = as_many (outer_contents c.args.place.now.outer) in
    other_header c.in-Ok.ensures.ok (omega (arith, m, c.len.ensures, c.if-len-ge-MAX_HEADERS.false))
    (inl (λ e. fails c.same_tag.result c.if-not-same_tag.true c.same_tag.ensures e))

pub returns-then-eq-clause-left : goal.returns-then-eq-clause-left
returns-then-eq-clause-left g c = λ other.
    let m = as_many (outer_contents c.args.place.now.outer) in
    let p : c.in-Ok.unit.form ≡ Primitive = search rules in
    other_header c.in-Ok.ensures.ok (omega (arith, m, c.len.ensures, c.if-len-ge-MAX_HEADERS.false))
    (inr (c.if-head.true, ap is_constructed p))
