use Rattle.std.proofs.Common.{◌≡◌, Some, inl, inr, length, sym, ap, ◌∙◌, subst, arith}
use Rattle.type_table.specs.Walks.{follow}
use Rattle.type_table.specs.proving.Walks.{one_more, comes_back}
use Rattle.range_ends.specs.proving.Steps.{listed}
use Rattle.range_ends.proofs.Circles.{below}
use Rattle.range_ends.proofs.References.{some_same}
use Rattle.range_ends.proofs.Turning.{goes_round, goes_on, goes_far, less_or, met_again, back_again, both_on}
use Rattle.range_ends.proofs.circle.first_met_twice.Goals as goal

pub steps_around-around-requires-clause-inside : goal.steps_around-around-requires-clause-inside
steps_around-around-requires-clause-inside c =
    let os = c.args.target.now in
    below (listed os) (length os) c.requires.round.reaches.steps c.args.start c.args.on c.requires.within c.requires.inside
    c.requires.round.reaches.chain

pub far_after-ahead-requires-clause-goes : goal.far_after-ahead-requires-clause-goes
far_after-ahead-requires-clause-goes c = goes_round (listed c.args.target.now) c.args.start c.args.on c.requires.round

pub after-at-requires : goal.after-at-requires
after-at-requires c =
    let os = c.args.target.now in
    record {
      inside = below (listed os) (length os) c.loop-step.step c.args.start c.loop-step.at c.requires.within c.requires.inside
          c.loop-step.invariant.chain;
    }

pub after-ahead-requires : goal.after-ahead-requires
after-ahead-requires c =
    let os = c.args.target.now in
    let l = below (listed os) (length os) c.loop-step.step c.args.start c.loop-step.at c.requires.within c.requires.inside
    c.loop-step.invariant.chain in
    record {
      inside = below (listed os) (length os) c.steps_around-around.result c.loop-step.at c.loop-step.ahead c.requires.within l
          c.loop-step.invariant.apart;
    }

pub returns-then-at-ahead : goal.returns-then-at-ahead
returns-then-at-ahead c =
    let os = c.args.target.now in
    let i = c.loop-step.at in
    record {
      steps = c.loop-step.step;
      chain = c.loop-step.invariant.chain;
      back = back_again (listed os) c.steps_around-around.result i c.steps_around-around.ensures.some
          (c.loop-step.invariant.apart ∙ ap Some (sym c.if-at-ahead.true));
      first = c.loop-step.invariant.first;
    }

pub loop-step-preserved : goal.loop-step-preserved
loop-step-preserved c =
    let os = c.args.target.now in
    let i = c.loop-step.at in
    let h = c.loop-step.ahead in
    let s = c.loop-step.step in
    let start = c.args.start in
    let around = c.steps_around-around.result in
    let inv = c.loop-step.invariant in
    let g = goes_far (listed os) s start i inv.chain (goes_round (listed os) start c.args.on c.requires.round) in
    let n = goes_on (listed os) i g in
    let m = goes_on (listed os) h (goes_far (listed os) around i h inv.apart g) in
    let on = n.1 ∙ ap Some (sym (c.after-at.ensures n.0 n.1)) in
    let further = m.1 ∙ ap Some (sym (c.after-ahead.ensures m.0 m.1)) in
    record {
      chain = one_more (listed os) s start i c.after-at.result inv.chain on;
      apart = both_on (listed os) around i h c.after-at.result c.after-ahead.result inv.apart on further;
      first = λ t q l e b. elim (less_or t s l) [
        | inl k ↦ inv.first t q k e b
        | inr k ↦ (
            let same : q ≡ i = some_same q i (sym e ∙ ap (λ z. follow (listed os) z start) k ∙ inv.chain) in
            let again = met_again (listed os) start c.args.on around t q c.requires.round c.steps_around-around.ensures e b in
            let apart = subst (λ z. follow (listed os) around z ≡ Some z) same again in
            c.if-at-ahead.false (some_same i h (sym apart ∙ inv.apart)))
      ];
    }

pub returns : goal.returns
returns c =
    let os = c.args.target.now in
    let inv = c.loop-step.invariant in
    let end : c.loop-step.step ≡ length os = omega (arith, c.loop-step-test.false, c.loop-step.auto.step-end) in
    record {
      steps = c.loop-step.step;
      chain = inv.chain;
      back = comes_back (listed os) (length os) c.args.start c.loop-step.at c.requires.within c.requires.inside
          (ap (λ z. follow (listed os) z c.args.start) (sym end) ∙ inv.chain);
      first = inv.first;
    }
