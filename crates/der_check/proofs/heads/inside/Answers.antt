use Rattle.std.proofs.Common.{arith, [], length, sym, ap, ◌∙◌}
use Rattle.std.proofs.lemmas.Bool.Decides.{nat_tests}
use Rattle.octets.specs.Forms.{is_constructed}
use Rattle.der_check.specs.Heads.{other_form}
use Rattle.der_check.proofs.Shortened.{is_inside, inside_unit, front_inside, count_inside, basic_unit, front_basic, not_shortest, longer_breaks}
use Rattle.der_check.proofs.heads.inside.Goals as goal

pub returns-in_default-clause-none : goal.returns-in_default-clause-none
returns-in_default-clause-none c = λ x i l. c.in_default.ensures.none c.args.head.tag c.args.head.constructed (length i.header) x [] (inside_unit i l)

pub returns-then-not-same_tag-clause-none : goal.returns-then-not-same_tag-clause-none
returns-then-not-same_tag-clause-none c = λ x i l.
    let h = c.same_tag.ensures.1 (front_inside c.header_laws.ensures.none_begins_another i l c.in-Ok.ensures.ok).tags in
    let f = c.if-not-same_tag.true in
    cc

pub returns-then-not-is_form-clause-none : goal.returns-then-not-is_form-clause-none
returns-then-not-is_form-clause-none c = λ x i l.
    c.is_form.ensures.no c.if-not-is_form.true (front_inside c.header_laws.ensures.none_begins_another i l c.in-Ok.ensures.ok).forms

pub returns-then-unit-header_len-clause-none : goal.returns-then-unit-header_len-clause-none
returns-then-unit-header_len-clause-none c = λ x i l.
    c.if-unit-header_len.true (count_inside c.header_laws.ensures.none_begins_another c.header_laws.ensures.only i l c.in-Ok.ensures.ok ∙ c.header_len.ensures.shortest (is_constructed c.in-Ok.unit.form))

pub returns-then-not-is_empty-clause-none : goal.returns-then-not-is_empty-clause-none
returns-then-not-is_empty-clause-none c = λ x i l.
    let z = ap length (front_inside c.header_laws.ensures.none_begins_another i l c.in-Ok.ensures.ok).rests in
    let e = c.if-not-is_empty.ensures in
    grind (arith, nat_tests)

pub returns-clause-ok : goal.returns-clause-ok
returns-clause-ok c =
    is_inside c.args.head c.lemma_shortest_headers.ensures.fewest c.in-Ok.ensures.ok (c.same_tag.ensures.0 c.if-not-same_tag.false) (c.is_form.ensures.yes c.if-not-is_form.false)
    (c.if-unit-header_len.false ∙ sym (c.header_len.ensures.shortest (is_constructed c.in-Ok.unit.form)))
    (let e = c.if-not-is_empty.ensures in grind (arith, nat_tests))

pub returns-in_default-clause-broken : goal.returns-in_default-clause-broken
returns-in_default-clause-broken c = λ d x h a e l. absurd (c.in_default.ensures.none c.args.head.tag d (length h) x [] (basic_unit a e l))

pub returns-then-not-same_tag-clause-broken : goal.returns-then-not-same_tag-clause-broken
returns-then-not-same_tag-clause-broken c = λ d x h a e l.
    let z = c.same_tag.ensures.1 (front_basic c.header_laws.ensures.none_begins_another a e l c.in-Ok.ensures.ok).tags in
    let f = c.if-not-same_tag.true in
    cc

pub returns-then-not-is_form-clause-broken : goal.returns-then-not-is_form-clause-broken
returns-then-not-is_form-clause-broken c = λ d x h a e l.
    other_form (λ q. c.is_form.ensures.no c.if-not-is_form.true ((front_basic c.header_laws.ensures.none_begins_another a e l c.in-Ok.ensures.ok).forms ∙ q))

pub returns-then-unit-header_len-clause-broken : goal.returns-then-unit-header_len-clause-broken
returns-then-unit-header_len-clause-broken c = λ d x h a e l.
    let s = front_basic c.header_laws.ensures.none_begins_another a e l c.in-Ok.ensures.ok in
    longer_breaks s.tags s.forms (c.is_form.ensures.yes c.if-not-is_form.false) (not_shortest c.header_laws.ensures.only c.header_len.result s a (c.header_len.ensures.shortest d) c.if-unit-header_len.true) (c.identifier_len.ensures d)

pub returns-then-not-is_empty-clause-broken : goal.returns-then-not-is_empty-clause-broken
returns-then-not-is_empty-clause-broken c = λ d x h a e l.
    absurd (let z = ap length (front_basic c.header_laws.ensures.none_begins_another a e l c.in-Ok.ensures.ok).rests in
    let y = c.if-not-is_empty.ensures in
    grind (arith, nat_tests))
