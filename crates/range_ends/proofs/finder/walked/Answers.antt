use Rattle.std.proofs.Common.{sym, ◌∙◌, arith}
use Rattle.trees.specs.Values.{tree_of}
use Rattle.type_table.specs.Seen.{kind_of}
use Rattle.range_ends.specs.proving.Steps.{next}
use Rattle.type_table.specs.proving.Walks.{one_more}
use Rattle.range_ends.proofs.References.{listed_read, refers_within}
use Rattle.range_ends.proofs.Following.{number_here, next_on}
use Rattle.range_ends.proofs.finder.walked.Goals as goal

pub loop-step-preserved : goal.loop-step-preserved
loop-step-preserved c =
    let p = c.args.course.now.linked.now.program in
    let k = kind_of c.args.course.now.shape.now in
    let os = c.args.course.now.target.now in
    let e = number_here p k c.loop-step.at c.notation_at.result.0.now (tree_of c.notation_at.result.1.now) c.notation_at.ensures
    ∙ sym c.direct_number.ensures ∙ c.in-None.is in
    let l = listed_read os c.loop-step.at _ _ (omega (arith, c.loop-step.invariant.inside, c.requires.referred.all)) c.in-Some-target.is in
    let n = next_on p k os c.loop-step.at e ∙ l in
    let in_list = refers_within p os c.lemma_whole.ensures c.requires.referred c.loop-step.at c.in-Some-target.next l in
    record {
      inside = omega (arith, in_list, c.requires.referred.all);
      chain = one_more (next p k os) c.loop-step.step c.args.start c.loop-step.at c.in-Some-target.next c.loop-step.invariant.chain n;
    }
