use Rattle.std.proofs.Common.{rules, ◌≡◌, ◌+◌, ◌++◌, arith, sym, ap, ◌∙◌}
use Rattle.asn_base.specs.declared.tag.Class.TheVariants.{Universal}
use Rattle.encodings.specs.Header.{class_bits, form_bit, septets}
use Rattle.octets.specs.Forms.{is_constructed}
use Rattle.octets.proofs.Identified.{number_0, number_none, identifier_low, identifier_high}
use Rattle.octets.proofs.read.read_identifier.Goals as goal

pub returns-then-eq-clause-err : goal.returns-then-eq-clause-err
returns-then-eq-clause-err c =
    let universal : c.first_octet-class.result.0 ≡ Universal = search rules in
    number_0 c.first_octet-class.result.0 (is_constructed c.first_octet-class.result.1) c.in-Some.first.now c.first_octet-class.result.2 c.args.octets.now c.in-Some.after.now c.in-Some.ensures.cases.0 c.first_octet-class.ensures.octet c.if-low-eq0.true universal

pub returns-then-low-lt31-clause-ok : goal.returns-then-low-lt31-clause-ok
returns-then-low-lt31-clause-ok c =
    identifier_low c.of.result (is_constructed c.first_octet-class.result.1) c.in-Some.first.now c.first_octet-class.result.2 c.args.octets.now c.in-Some.after.now c.in-Some.ensures.cases.0
    (c.first_octet-class.ensures.octet ∙ ap (λ q. class_bits q + form_bit (is_constructed c.first_octet-class.result.1) + c.first_octet-class.result.2) (sym c.of.ensures.class)) c.if-low-lt31.true c.of.ensures.number

pub returns-in-Err-clause-err : goal.returns-in-Err-clause-err
returns-in-Err-clause-err c =
    let low = c.first_octet-class.ensures.low in
    let ge = c.if-low-lt31.false in
    let n : c.first_octet-class.result.2 ≡ 31 = omega arith in
    number_none c.first_octet-class.result.0 (is_constructed c.first_octet-class.result.1) c.in-Some.first.now c.args.octets.now c.in-Some.after.now c.in-Err.fault c.in-Some.ensures.cases.0
    (c.first_octet-class.ensures.octet ∙ ap (λ q. class_bits c.first_octet-class.result.0 + form_bit (is_constructed c.first_octet-class.result.1) + q) n)
    c.in-Err.ensures.err

pub returns-clause-ok : goal.returns-clause-ok
returns-clause-ok c =
    let low = c.first_octet-class.ensures.low in
    let ge = c.if-low-lt31.false in
    let n : c.first_octet-class.result.2 ≡ 31 = omega arith in
    let number = c.of-2.ensures.number in
    let above = c.in-Ok.ensures.above in
    identifier_high c.of-2.result (is_constructed c.first_octet-class.result.1) c.in-Some.first.now c.args.octets.now c.in-Some.after.now c.in-Ok.read.1.now c.in-Some.ensures.cases.0
    (c.first_octet-class.ensures.octet ∙ ap (λ q. class_bits q + form_bit (is_constructed c.first_octet-class.result.1) + c.first_octet-class.result.2) (sym c.of-2.ensures.class) ∙ ap (λ q. class_bits c.of-2.result.class + form_bit (is_constructed c.first_octet-class.result.1) + q) n)
    (omega arith) (c.in-Ok.ensures.ok ∙ ap (λ q. septets q ++ c.in-Ok.read.1.now) (sym number))
