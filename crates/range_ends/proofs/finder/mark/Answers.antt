use Rattle.std.proofs.Common.{◌≡◌, ◌+◌, ◌-◌, suc, subst, arith}
use Rattle.type_table.specs.Seen.{kind_of}
use Rattle.range_ends.specs.proving.Noted.{IsPath}
use Rattle.range_ends.proofs.References.{listed_read}
use Rattle.range_ends.proofs.Marks.{leads_all, path_leads, path_on}
use Rattle.range_ends.proofs.finder.mark.Goals as goal

pub loop-step-preserved : goal.loop-step-preserved
loop-step-preserved c =
    let p = c.args.course.now.linked.now.program in
    let k = kind_of c.args.course.now.shape.now in
    let os = c.args.course.now.target.now in
    let s = c.loop-step.step in
    let i = c.loop-step.at in
    let w = c.loop-step.invariant.path in
    let l = listed_read os i _ _ (omega (arith, c.if-at-course.false)) c.in-Some.is in
    let q : c.args.steps - s ≡ suc (c.args.steps - (s + 1)) = omega (arith, c.loop-step-test.true) in
    record {
      path = path_on p k os (c.args.steps - (s + 1)) i c.in-Some.next c.args.reached l
          (subst (λ n. IsPath p k os n i c.args.reached) q w);
      right = c.put.ensures p os c.loop-step.invariant.right
          (leads_all p os c.args.course.now.core k i c.args.reached c.requires.kind
          (path_leads p k os (c.args.steps - s) i c.args.reached w));
    }

pub returns-in-None : goal.returns-in-None
returns-in-None c =
    let p = c.args.course.now.linked.now.program in
    let k = kind_of c.args.course.now.shape.now in
    let os = c.args.course.now.target.now in
    let i = c.loop-step.at in
    c.put.ensures p os c.loop-step.invariant.right
    (leads_all p os c.args.course.now.core k i c.args.reached c.requires.kind
    (path_leads p k os (c.args.steps - c.loop-step.step) i c.args.reached c.loop-step.invariant.path))
