use Rattle.std.proofs.Common.{arith, refl, sym, subst, ◌∙◌}
use Rattle.octet_answers.specs.Unanswered.{CantSkip, no_encoding, addition_too_deep, no_addition, after_addition}
use Rattle.octet_answers.specs.Found.{Passes, at_end_of_contents, at_component, passes}
use Rattle.ber_source.specs.Seen.{state_of, outer_contents}
use Rattle.ber_source.proofs.Windows.{as_many, false_true, no_octets, some_octets}
use Rattle.ber_source.proofs.Passed.{at_end_alone, component_alone, no_unit_none, must_pass}
use Rattle.ber_source.proofs.passing.pass_one.Goals as goal

pub returns-then-is_empty-clause-ended : goal.returns-then-is_empty-clause-ended
returns-then-is_empty-clause-ended g c =
    (refl, at_end_of_contents (no_octets c.args.place.now.here.octets.now c.is_empty.result c.is_empty.ensures c.if-is_empty.true))

pub returns-then-is_empty-clause-only : goal.returns-then-is_empty-clause-only
returns-then-is_empty-clause-only g c d b p =
    at_end_alone c.lemma_one_unit.ensures.some (no_octets c.args.place.now.here.octets.now c.is_empty.result c.is_empty.ensures c.if-is_empty.true) p

pub returns-in-Err-clause-err : goal.returns-in-Err-clause-err
returns-in-Err-clause-err g c other f b p =
    no_unit_none c.in-Err.ensures.none (some_octets c.args.place.now.here.octets.now c.is_empty.result c.is_empty.ensures c.if-is_empty.false) p

pub returns-in-Some-clause-ended : goal.returns-in-Some-clause-ended
returns-in-Some-clause-ended g c = (refl, at_component c.in-Ok.ensures.ok c.in-Some.ensures.some)

pub returns-in-Some-clause-only : goal.returns-in-Some-clause-only
returns-in-Some-clause-only g c d b p =
    component_alone c.lemma_one_unit.ensures.some c.lemma_one_unit.ensures.once c.in-Ok.ensures.ok c.in-Some.ensures.some p

pub returns-then-len-ge-MAX_HEADERS-clause-err : goal.returns-then-len-ge-MAX_HEADERS-clause-err
returns-then-len-ge-MAX_HEADERS-clause-err g c other f b p =
    let z = must_pass c.lemma_one_unit.ensures.some c.lemma_one_unit.ensures.once c.in-Ok.ensures.ok c.in-None.ensures.none p in
    let l = z.few_levels in
    let m = as_many (outer_contents c.args.place.now.outer) in
    omega (arith, l, m, c.len.ensures, c.if-len-ge-MAX_HEADERS.true)

pub returns-then-not-extensible-clause-err : goal.returns-then-not-extensible-clause-err
returns-then-not-extensible-clause-err g c other f b p =
    let z = must_pass c.lemma_one_unit.ensures.some c.lemma_one_unit.ensures.once c.in-Ok.ensures.ok c.in-None.ensures.none p in
    false_true (sym c.if-not-extensible.true ∙ z.extensible)

pub returns-clause-passed : goal.returns-clause-passed
returns-clause-passed g c f b p =
    let s = c.args.place.now.code.now in
    let m = as_many (outer_contents c.args.place.now.outer) in
    passes c.if-not-extensible.false c.in-Ok.ensures.ok c.in-None.ensures.none
    (omega (arith, m, c.len.ensures, c.if-len-ge-MAX_HEADERS.false))
    (subst (λ q. Passes s c.args.steps.now c.args.extensible q f b) c.in_ok-step_over.ensures.ok p)

pub returns-clause-back : goal.returns-clause-back
returns-clause-back g c f b p =
    let z = must_pass c.lemma_one_unit.ensures.some c.lemma_one_unit.ensures.once c.in-Ok.ensures.ok c.in-None.ensures.none p in
    subst (λ q. Passes c.args.place.now.code.now c.args.steps.now c.args.extensible q f b) (sym c.in_ok-step_over.ensures.ok) z.following

pub returns-in-Err-clause-left : goal.returns-in-Err-clause-left
returns-in-Err-clause-left g c = λ other.
    let a = state_of g.T.TokenSink.tokens c.args.place.now in
    let some = some_octets c.args.place.now.here.octets.now c.is_empty.result c.is_empty.ensures c.if-is_empty.false in
    subst (λ q. CantSkip c.args.place.now.code.now c.args.steps.now c.args.extensible a a q) (sym c.from_header_fault.ensures) (no_encoding c.in-Err.fault (omega (arith, some)) c.in-Err.ensures.err)

pub returns-then-len-ge-MAX_HEADERS-clause-left : goal.returns-then-len-ge-MAX_HEADERS-clause-left
returns-then-len-ge-MAX_HEADERS-clause-left g c = λ other.
    let m = as_many (outer_contents c.args.place.now.outer) in
    addition_too_deep c.in-Ok.ensures.ok c.in-None.ensures.none (omega (arith, m, c.len.ensures, c.if-len-ge-MAX_HEADERS.true))

pub returns-then-not-extensible-clause-left : goal.returns-then-not-extensible-clause-left
returns-then-not-extensible-clause-left g c = λ other.
    let m = as_many (outer_contents c.args.place.now.outer) in
    no_addition c.in-Ok.ensures.ok c.in-None.ensures.none (omega (arith, m, c.len.ensures, c.if-len-ge-MAX_HEADERS.false)) c.if-not-extensible.true

pub returns-clause-onward : goal.returns-clause-onward
returns-clause-onward g c = λ b e h.
    let m = as_many (outer_contents c.args.place.now.outer) in
    after_addition c.if-not-extensible.false c.in-Ok.ensures.ok c.in-None.ensures.none
    (omega (arith, m, c.len.ensures, c.if-len-ge-MAX_HEADERS.false))
    (subst (λ q. CantSkip c.args.place.now.code.now c.args.steps.now c.args.extensible q b e) c.in_ok-step_over.ensures.ok h)
