use Rattle.std.proofs.Common.{arith}
use Rattle.views.proofs.view.member_count.Goals as goal

pub loop-at-init : goal.loop-at-init
loop-at-init c = let r = c.requires in ((r.0, record { nodes = r.1.nodes; within = r.1.within }), omega arith, omega arith)

pub loop-at-preserved : goal.loop-at-preserved
loop-at-preserved c =
    let i = c.loop-at.invariant in
    let n = c.next_of-end.ensures.next i.0.0 i.0.1 in
    let m = c.next_of-end.ensures.more in
    ((n.rest, n.after), omega (arith, i.1, m), c.next_of-end.ensures.inside)
