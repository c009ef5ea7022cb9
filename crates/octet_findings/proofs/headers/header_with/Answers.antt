use Rattle.std.proofs.Common.{arith, refl}
use Rattle.octet_findings.proofs.Fronts.{header_some}
use Rattle.octet_findings.proofs.Depths.{entered_contents, entered_next, header_found, none_here, none_left}
use Rattle.octet_findings.proofs.headers.header_with.Goals as goal
use Rattle.octet_findings.proofs.headers.header_with.Goals.{then-at-end, else-at-end}

pub returns-in_default-clause-none : goal.returns-in_default-clause-none
returns-in_default-clause-none c = none_here c.loop.invariant.entered c.in_default.ensures.none

pub returns-then-at-first-clause-some : goal.returns-then-at-first-clause-some
returns-then-at-first-clause-some c =
    let few = c.in-Some.ensures.few in
    header_found c.loop.invariant.entered c.in-Some.ensures.some refl
    (c.after_header-first.ensures (omega (arith, few))) c.if-at-first.true

pub returns-clause-none : goal.returns-clause-none
returns-clause-none c =
    let far = c.loop.invariant.far in
    let all = c.loop-test.false in
    none_left c.loop.invariant.entered (omega (arith, far, all))

pub loop-preserved : goal.loop-preserved
loop-preserved c =
    let entered = c.loop.invariant.entered in
    let less = c.loop.invariant.few in
    let far = c.loop.invariant.far in
    let few = c.in-Some.ensures.few in
    let there = c.in-Some.ensures.some in
    let some = header_some there in
    let first = c.after_header-first.ensures (omega (arith, few)) in
    let end = c.after_contents-end.ensures few in
    let later = c.if-at-first.false in
    elim c.if-at-end.branch [
      | then-at-end w ↦
          let start = w.start-is in
          let levels = w.levels-is in
          let within = w.if-at-end.true in
          record {
            entered = entered_contents c.lemma_one_front.ensures.header entered there
                (omega (arith, first, later)) (omega (arith, end, within)) (omega (arith, start, first)) levels;
            few = omega (arith, less, levels);
            far = omega (arith, start, first, some, far);
          }
      | else-at-end w ↦
          let start = w.start-is in
          let levels = w.levels-is in
          let past = w.if-at-end.false in
          record {
            entered = entered_next c.lemma_one_front.ensures.header entered there
                (omega (arith, end, past)) (omega (arith, start, end)) levels;
            few = omega (arith, less, levels);
            far = omega (arith, start, end, some, far);
          }
    ]
