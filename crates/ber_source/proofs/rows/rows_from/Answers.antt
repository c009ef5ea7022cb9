use Rattle.std.proofs.Common.{arith, ◌+◌, [], length, sym, subst}
use Rattle.std.specs.Prelude.{false}
use Rattle.codec_code.specs.Routines.{routine_at}
use Rattle.codec_source.specs.proving.Wholes.{ReadsElement, no_link, and_link}
use Rattle.octet_answers.specs.Answers.{Takes}
use Rattle.ber_source.specs.Rows.{in_row, moved}
use Rattle.ber_source.proofs.Elements.{inside_row, one_fewer, row_front, row_whole}
use Rattle.ber_source.proofs.rows.rows_from.Goals as goal

pub loop-budget-init : goal.loop-budget-init
loop-budget-init g c = (λ a e few headers. no_link, c.requires.short, λ s h. h)

pub returns-then-not-is_whole-clause-ok : goal.returns-then-not-is_whole-clause-ok
returns-then-not-is_whole-clause-ok g c = λ a e few headers.
    let from = c.loop-budget.next.at in
    let x = c.in-Some.contents.now in
    let rest = c.in-Some.rest.now in
    let next = from + (2 + length x) in
    let in_it = in_row a c.args.rows.id rest next [] 0 [] 0 in
    let last = c.in-Ok.last in
    record {
      front_at = moved a c.loop-budget.next.octets.now from (g.T.TokenSink.tokens c.loop-budget.emitted) c.loop-budget.budget;
      wholes = c.loop-budget.invariant.0 a e few headers;
      front = row_front c.lemma_one_answer.ensures.takes (routine_at c.args.code.now) a c.args.rows.id c.args.rows.head c.args.rows.fields.now last.left.now c.loop-budget.next.octets.now x rest last.here.octets.now from last.here.at (g.T.TokenSink.tokens c.loop-budget.emitted) (g.T.TokenSink.tokens c.row_from.new.emitted) c.loop-budget.budget last.budget c.requires.routine c.in-Some.ensures (let t = c.loop-budget-test.true in omega (arith, t)) (omega (arith, few)) (omega (arith, headers))
          (c.in-Ok.ensures.ok in_it e (one_fewer a.values c.args.rows.id 63 few) (one_fewer a.outer _ 399 headers));
    }

pub loop-budget-preserved : goal.loop-budget-preserved
loop-budget-preserved g c =
    let r = routine_at c.args.code.now in
    let from = c.loop-budget.next.at in
    let x = c.in-Some.contents.now in
    let rest = c.in-Some.rest.now in
    let next = from + (2 + length x) in
    let last = c.in-Ok.last in
    let us = g.T.TokenSink.tokens c.row_from.new.emitted in (
      λ a e few headers.
          let start = moved a c.loop-budget.next.octets.now from (g.T.TokenSink.tokens c.loop-budget.emitted) c.loop-budget.budget in
          let in_it = in_row a c.args.rows.id rest next [] 0 [] 0 in
          let front = row_front c.lemma_one_answer.ensures.takes r a c.args.rows.id c.args.rows.head c.args.rows.fields.now last.left.now c.loop-budget.next.octets.now x rest last.here.octets.now from last.here.at (g.T.TokenSink.tokens c.loop-budget.emitted) us c.loop-budget.budget last.budget c.requires.routine c.in-Some.ensures (let t = c.loop-budget-test.true in omega (arith, t)) (omega (arith, few)) (omega (arith, headers))
          (c.in-Ok.ensures.ok in_it e (one_fewer a.values c.args.rows.id 63 few) (one_fewer a.outer _ 399 headers)) in
          let whole = row_whole c.lemma_one_answer.ensures.takes r a start c.args.rows.id rest last.here.octets.now next last.here.at us last.left.now last.budget (c.is_whole.ensures.end c.if-not-is_whole.false) (c.is_whole.ensures.none c.if-not-is_whole.false) front in
          and_link (c.loop-budget.invariant.0 a e few headers)
          (subst (λ q. ReadsElement r Takes c.args.rows.id false start (moved a rest next q last.budget)) (sym c.in_ok-emit.ensures.ok) whole),
      (inside_row c.args.rows.head.tag x rest c.loop-budget.next.octets.now from c.loop-budget.invariant.1 c.in-Some.ensures).1,
      λ s h. c.emit.ensures.suits s (c.row_from.ensures.suits s (c.loop-budget.invariant.2 s h)),
    )

pub returns-clause-ok : goal.returns-clause-ok
returns-clause-ok g c = c.loop-budget.invariant.0

pub returns-clause-short : goal.returns-clause-short
returns-clause-short g c = c.loop-budget.invariant.1

pub returns-clause-suits : goal.returns-clause-suits
returns-clause-suits g c = c.loop-budget.invariant.2
