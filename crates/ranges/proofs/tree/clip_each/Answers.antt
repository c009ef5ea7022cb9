use Rattle.asn_base.specs.Trees.{ranges_in}
use Rattle.ranges.proofs.Cuts.{more, none}
use Rattle.ranges.proofs.tree.clip_each.Goals as goal

pub loop-i-init : goal.loop-i-init
loop-i-init c = none c.args.others.now (ranges_in c.args.link.now)

pub loop-i-preserved : goal.loop-i-preserved
loop-i-preserved c =
    rw (c.in_ok-all.ensures, c.loop-i.invariant, c.in_ok-part.ensures)
    (more c.args.others.now c.loop-i.i _ (ranges_in c.args.link.now) c.loop-i-test.true)
