use Rattle.std.proofs.Common.{◌≤◌, ◌+◌, length, sym, ◌∙◌, arith, rules}
use Rattle.trees.specs.Values.{tree_of}
use Rattle.type_table.specs.Seen.{kind_of}
use Rattle.range_ends.specs.proving.Steps.{listed, next}
use Rattle.range_ends.proofs.References.{listed_read, refers_within}
use Rattle.type_table.specs.proving.Walks.{one_more}
use Rattle.range_ends.proofs.Turning.{goes_round, round_also, first_also}
use Rattle.range_ends.specs.proving.Ways.{Ends}
use Rattle.range_ends.proofs.Marks.{arrives_below}
use Rattle.range_ends.proofs.Following.{number_here, next_number, next_on, next_listed, long_way}
use Rattle.range_ends.proofs.ends.first_number.Goals as goal

pub loop-step-init : goal.loop-step-init
loop-step-init c = record {
  inside = arrives_below c.args.linked.now.program (kind_of c.args.shape.now) c.args.target.now c.args.start c.args.from
      c.lemma_whole.ensures c.requires.referred c.requires.inside c.requires.goes;
  steps = (c.requires.goes.steps, omega arith, c.requires.goes.chain);
}

pub returns-in-Some : goal.returns-in-Some
returns-in-Some c =
    let p = c.args.linked.now.program in
    let k = kind_of c.args.shape.now in
    let os = c.args.target.now in
    let t = number_here p k c.loop-step.at c.notation_at.result.0.now (tree_of c.notation_at.result.1.now)
    c.notation_at.ensures ∙ sym c.direct_number.ensures ∙ c.in-Some.is in
    let e : Ends p k os c.args.start c.in-Some.number = record {
      last = c.loop-step.at;
      way = record {
        steps = c.loop-step.invariant.steps.0;
        chain = c.loop-step.invariant.steps.2;
        ends = next_number p k os c.loop-step.at c.in-Some.number t;
      };
      number_is = t;
    } in
    search rules

pub returns-in-None-target : goal.returns-in-None-target
returns-in-None-target c =
    let p = c.args.linked.now.program in
    let k = kind_of c.args.shape.now in
    let os = c.args.target.now in
    let e = number_here p k c.loop-step.at c.notation_at.result.0.now (tree_of c.notation_at.result.1.now) c.notation_at.ensures
    ∙ sym c.direct_number.ensures ∙ c.in-None.is in
    let l = listed_read os c.loop-step.at _ _ (omega (arith, c.loop-step.invariant.inside, c.requires.referred.all)) c.in-None-target.is in
    record {
      last = c.loop-step.at;
      way = record { steps = c.loop-step.invariant.steps.0; chain = c.loop-step.invariant.steps.2; ends = next_on p k os c.loop-step.at e ∙ l };
      number_is = e;
      alone = l;
    }

pub loop-step-preserved : goal.loop-step-preserved
loop-step-preserved c =
    let p = c.args.linked.now.program in
    let k = kind_of c.args.shape.now in
    let os = c.args.target.now in
    let e = number_here p k c.loop-step.at c.notation_at.result.0.now (tree_of c.notation_at.result.1.now) c.notation_at.ensures
    ∙ sym c.direct_number.ensures ∙ c.in-None.is in
    let l = listed_read os c.loop-step.at _ _ (omega (arith, c.loop-step.invariant.inside, c.requires.referred.all)) c.in-Some-target.is in
    let n = next_on p k os c.loop-step.at e ∙ l in
    let in_list = refers_within p os c.lemma_whole.ensures c.requires.referred c.loop-step.at c.in-Some-target.next l in
    record {
      inside = omega (arith, in_list, c.requires.referred.all);
      steps = (let w = c.loop-step.invariant.steps in (
        w.0 + 1,
        (let m = w.1 in omega (arith, m)),
        one_more (next p k os) w.0 c.args.start c.loop-step.at c.in-Some-target.next w.2 n,
      ));
    }

pub first_met_twice-requires : goal.first_met_twice-requires
first_met_twice-requires c =
    let p = c.args.linked.now.program in
    let k = kind_of c.args.shape.now in
    let os = c.args.target.now in
    let w = c.loop-step.invariant.steps in
    let m = w.1 in
    let all : length os ≤ w.0 = omega (arith, m, c.loop-step-test.false, c.loop-step.auto.step-end) in
    record {
      within = refers_within p os c.lemma_whole.ensures c.requires.referred;
      inside = omega (arith, c.requires.inside, c.requires.referred.all);
      round = round_also (next p k os) (listed os) (next_listed p k os) c.args.start c.loop-step.at
          (long_way p k os w.0 c.args.start c.loop-step.at c.lemma_whole.ensures c.requires.referred c.requires.inside
          all w.2);
    }

pub returns : goal.returns
returns c =
    let p = c.args.linked.now.program in
    let k = kind_of c.args.shape.now in
    let os = c.args.target.now in
    let w = c.loop-step.invariant.steps in
    let m = w.1 in
    let all : length os ≤ w.0 = omega (arith, m, c.loop-step-test.false, c.loop-step.auto.step-end) in
    first_also (next p k os) (listed os) (next_listed p k os) c.args.start c.first_met_twice.result
    (goes_round (next p k os) c.args.start c.loop-step.at
    (long_way p k os w.0 c.args.start c.loop-step.at c.lemma_whole.ensures c.requires.referred c.requires.inside
    all w.2))
    c.first_met_twice.ensures
