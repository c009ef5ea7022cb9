use Rattle.std.proofs.Common.{Some, length, sym, ap, ◌∙◌}
use Rattle.type_table.specs.proving.Walks.{one_more}
use Rattle.range_ends.specs.proving.Steps.{listed}
use Rattle.range_ends.proofs.Circles.{below}
use Rattle.range_ends.proofs.Turning.{goes_on, goes_far}
use Rattle.range_ends.proofs.circle.far_after.Goals as goal

pub after-at-requires : goal.after-at-requires
after-at-requires c =
    let os = c.args.target.now in
    record {
      inside = below (listed os) (length os) c.loop-step.step c.args.start c.loop-step.at c.requires.within c.requires.inside
          c.loop-step.invariant;
    }

pub loop-step-preserved : goal.loop-step-preserved
loop-step-preserved c =
    let os = c.args.target.now in
    let i = c.loop-step.at in
    let n = goes_on (listed os) i
    (goes_far (listed os) c.loop-step.step c.args.start i c.loop-step.invariant c.requires.goes) in
    one_more (listed os) c.loop-step.step c.args.start i c.after-at.result c.loop-step.invariant
    (n.1 ∙ ap Some (sym (c.after-at.ensures n.0 n.1)))
