use Rattle.std.proofs.Common.{◌≡◌, ◌+◌, ◌-◌, Some, inl, inr, length, sym, ap, ◌∙◌, arith}
use Rattle.type_table.specs.Walks.{follow}
use Rattle.type_table.specs.proving.Walks.{one_more}
use Rattle.range_ends.specs.proving.Steps.{listed}
use Rattle.range_ends.proofs.Circles.{below}
use Rattle.range_ends.proofs.References.{some_same}
use Rattle.range_ends.proofs.Turning.{back_goes, goes_on, goes_far, less_or, short_round}
use Rattle.range_ends.proofs.circle.steps_around.Goals as goal

pub after-at-requires : goal.after-at-requires
after-at-requires c =
    let os = c.args.target.now in
    record {
      inside = below (listed os) (length os) (c.loop-step.step - 1) c.args.start c.loop-step.at c.requires.within
          c.requires.inside c.loop-step.invariant.chain;
    }

pub returns-then-at-start : goal.returns-then-at-start
returns-then-at-start c =
    let os = c.args.target.now in
    let s = c.loop-step.step in
    let i = c.loop-step.at in
    let g = back_goes (listed os) c.args.start c.requires.back in
    let n = goes_on (listed os) i (goes_far (listed os) (s - 1) c.args.start i c.loop-step.invariant.chain g) in
    let e = one_more (listed os) (s - 1) c.args.start i n.0 c.loop-step.invariant.chain n.1 in
    let q : s - 1 + 1 ≡ s = omega (arith, c.loop-step.invariant.some) in
    record {
      some = c.loop-step.invariant.some;
      chain = ap (λ k. follow (listed os) k c.args.start) (sym q) ∙ e
          ∙ ap Some (sym (c.after-at.ensures n.0 n.1) ∙ c.if-at-start.true);
    }

pub loop-step-preserved : goal.loop-step-preserved
loop-step-preserved c =
    let os = c.args.target.now in
    let s = c.loop-step.step in
    let i = c.loop-step.at in
    let start = c.args.start in
    let g = back_goes (listed os) start c.requires.back in
    let n = goes_on (listed os) i (goes_far (listed os) (s - 1) start i c.loop-step.invariant.chain g) in
    let e = one_more (listed os) (s - 1) start i n.0 c.loop-step.invariant.chain n.1 in
    let q : s - 1 + 1 ≡ s + 1 - 1 = omega (arith, c.loop-step.invariant.some) in
    let r : s - 1 + 1 ≡ s = omega (arith, c.loop-step.invariant.some) in
    let to = sym (c.after-at.ensures n.0 n.1) in
    record {
      some = omega arith;
      chain = ap (λ k. follow (listed os) k start) (sym q) ∙ e ∙ ap Some to;
      never = λ t p l x. elim (less_or t s l) [
        | inl m ↦ c.loop-step.invariant.never t p m x
        | inr m ↦ c.if-at-start.false
            (some_same c.after-at.result start
            (ap Some (sym to) ∙ sym e ∙ ap (λ k. follow (listed os) k start) (r ∙ sym m) ∙ x))
      ];
    }

pub returns : goal.returns
returns c =
    let os = c.args.target.now in
    let start = c.args.start in
    let r = short_round (listed os) (length os) start c.requires.within c.requires.inside c.requires.back in
    let end : c.loop-step.step ≡ length os =
    omega (arith, c.loop-step-test.false, c.requires.inside, c.loop-step.auto.step-end (omega (arith, c.requires.inside))) in
    record {
      some = omega (arith, c.requires.inside);
      chain = elim (less_or r.0 (length os - 1) (omega (arith, r.1, c.requires.inside))) [
        | inl m ↦ absurd (c.loop-step.invariant.never (r.0 + 1) (omega arith) (omega (arith, m, end)) r.2)
        | inr m ↦ (let q : r.0 + 1 ≡ length os = omega (arith, m, c.requires.inside) in
            ap (λ k. follow (listed os) k start) (sym q) ∙ r.2)
      ];
    }
