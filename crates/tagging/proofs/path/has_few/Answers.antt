use Rattle.std.proofs.Common.{arith}
use Rattle.tagging.proofs.Steps.{none_passed, few_passed, many_passed, one_passed}
use Rattle.tagging.proofs.path.has_few.Goals as goal

pub loop-passed-init : goal.loop-passed-init
loop-passed-init c = record { inside = c.requires; onto = none_passed c.args.columns.now.program.types c.args.ty }

pub returns-in-Ends-clause-few : goal.returns-in-Ends-clause-few
returns-in-Ends-clause-few c = λ t. few_passed c.args.columns.now.program.types c.args.ty c.loop-passed.at c.loop-passed.passed c.loop-passed.invariant.onto c.in-Ends.ensures.1 (omega arith)

pub loop-passed-preserved : goal.loop-passed-preserved
loop-passed-preserved c =
    let i = c.in-Inside.ensures in
    record {
      inside = i.there;
      onto = one_passed c.args.columns.now.program.types c.args.ty c.loop-passed.at c.loop-passed.passed _ _ _ c.in-Inside.j c.loop-passed.invariant.onto i;
    }

pub returns-clause-many : goal.returns-clause-many
returns-clause-many c = λ f. many_passed c.args.columns.now.program.types c.args.ty c.loop-passed.at c.loop-passed.passed c.lemma_whole.ensures c.loop-passed.invariant.inside c.loop-passed.invariant.onto (omega arith)
