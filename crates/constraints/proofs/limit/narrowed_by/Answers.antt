use Rattle.std.proofs.Common.{map, refl, sym, subst, arith, length, ◌≡◌, ◌∙◌}
use Rattle.std.proofs.lemmas.Option.{slice_get_read}
use Rattle.constraints.specs.First.{reconstrained, itself, memory}
use Rattle.trees.specs.Constraints.{constraint_of}
use Rattle.type_table.specs.Seen.{kind_of}
use Rattle.constraints.specs.proving.Limits.{Narrows}
use Rattle.constraints.proofs.Letters.{seen_here}
use Rattle.constraints.proofs.Narrowing.{narrow_more, at_wrong}
use Rattle.constraints.proofs.limit.narrowed_by.Goals as goal

pub returns-then-limit-clause-found : goal.returns-then-limit-clause-found
returns-then-limit-clause-found c =
    let here = seen_here constraint_of c.args.constraints.now c.loop-constraint.constraint-index c.constraint-item.result
    (omega (arith, c.loop-constraint-test.true, c.loop-constraint.auto.constraint-index-end)) c.constraint-item.is in
    (c.loop-constraint.constraint-index, constraint_of c.constraint-item.result, here, c.loop-constraint.invariant.marked.0 c.if-limit.true)

pub returns-in-Err-clause-found : goal.returns-in-Err-clause-found
returns-in-Err-clause-found c =
    let here = seen_here constraint_of c.args.constraints.now c.loop-constraint.constraint-index c.constraint-item.result
    (omega (arith, c.loop-constraint-test.true, c.loop-constraint.auto.constraint-index-end)) c.constraint-item.is in
    at_wrong c.args.site.now.scope.now.program (kind_of c.args.site.now.shape.now) c.args.site.now.within.now (map constraint_of c.args.constraints.now) c.args.start
    c.loop-constraint.constraint-index (constraint_of c.constraint-item.result) c.in-Err.wrong here c.in-Err.ensures.found

pub loop-constraint-preserved : goal.loop-constraint-preserved
loop-constraint-preserved c =
    let here = seen_here constraint_of c.args.constraints.now c.loop-constraint.constraint-index c.constraint-item.result
    (omega (arith, c.loop-constraint-test.true, c.loop-constraint.auto.constraint-index-end)) c.constraint-item.is in
    narrow_more c.args.site.now.scope.now.program (kind_of c.args.site.now.shape.now) c.args.site.now.within.now (map constraint_of c.args.constraints.now)
    c.loop-constraint.constraint-index c.args.start c.loop-constraint.limit c.in-Ok-narrowed.limit
    (constraint_of c.constraint-item.result) c.in-Ok.meaning c.loop-constraint.invariant c.if-limit.false here c.in-Ok.ensures.found
    c.in-Ok-narrowed.ensures

pub returns-clause-found : goal.returns-clause-found
returns-clause-found c =
    let all : c.loop-constraint.constraint-index ≡ length c.args.constraints.now =
    omega (arith, c.loop-constraint-test.false, c.loop-constraint.auto.constraint-index-end) in
    subst (λ n. Narrows c.args.site.now.scope.now.program (kind_of c.args.site.now.shape.now) c.args.site.now.within.now (map constraint_of c.args.constraints.now)
    n c.args.start c.loop-constraint.limit) all c.loop-constraint.invariant

pub returns-then-limit-clause-first : goal.returns-then-limit-clause-first
returns-then-limit-clause-first c =
    let n = c.loop-constraint.invariant in
    record {
      number = c.loop-constraint.constraint-index;
      constraint = c.constraint-item.result;
      there = slice_get_read c.args.constraints.now (length c.args.constraints.now) c.loop-constraint.constraint-index
          c.constraint-item.result refl
          (omega (arith, c.loop-constraint-test.true, c.loop-constraint.auto.constraint-index-end)) c.constraint-item.is;
      fault = reconstrained (n.marked.0 c.if-limit.true) refl;
      before = λ i d l e. n.fitting i d l e;
      unmarked = λ i l h. absurd (n.last i l h);
    }

pub returns-in-Err-clause-first : goal.returns-in-Err-clause-first
returns-in-Err-clause-first c =
    let n = c.loop-constraint.invariant in
    record {
      number = c.loop-constraint.constraint-index;
      constraint = c.constraint-item.result;
      there = slice_get_read c.args.constraints.now (length c.args.constraints.now) c.loop-constraint.constraint-index
          c.constraint-item.result refl
          (omega (arith, c.loop-constraint-test.true, c.loop-constraint.auto.constraint-index-end)) c.constraint-item.is;
      fault = itself (λ h. let e = sym c.if-limit.false ∙ n.marked.1 h in absurd cc) c.in-Err.ensures.wrong;
      before = λ i d l e. n.fitting i d l e;
      unmarked = λ i l h. absurd (n.last i l h);
    }

pub returns-in-Err-narrowed-clause-first : goal.returns-in-Err-narrowed-clause-first
returns-in-Err-narrowed-clause-first c =
    let n = c.loop-constraint.invariant in
    record {
      number = c.loop-constraint.constraint-index;
      constraint = c.constraint-item.result;
      there = slice_get_read c.args.constraints.now (length c.args.constraints.now) c.loop-constraint.constraint-index
          c.constraint-item.result refl
          (omega (arith, c.loop-constraint-test.true, c.loop-constraint.auto.constraint-index-end)) c.constraint-item.is;
      fault = itself (λ h. let e = sym c.if-limit.false ∙ n.marked.1 h in absurd cc) (memory refl);
      before = λ i d l e. n.fitting i d l e;
      unmarked = λ i l h. absurd (n.last i l h);
    }
