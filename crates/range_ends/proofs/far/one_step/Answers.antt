use Rattle.std.proofs.Common.{◌<◌, length, sym, subst, arith}
use Rattle.range_ends.specs.proving.Far.{IsFar}
use Rattle.range_ends.proofs.References.{listed_read}
use Rattle.range_ends.proofs.Doubling.{far_none, far_one, far_more}
use Rattle.range_ends.proofs.far.one_step.Goals.{in-None, in-Some}
use Rattle.range_ends.proofs.far.one_step.Goals as goal

pub loop-at-preserved : goal.loop-at-preserved
loop-at-preserved c =
    let os = c.args.target.now in
    let i = c.loop-at.at in
    let l : i < length os = omega (arith, c.loop-at-test.true, c.loop-at.auto.at-end) in
    far_more os 1 c.loop-at.all.items c.push.new.self.items c.match-target-at.next i c.loop-at.invariant c.in_ok-push.ensures.items
    (elim c.match-target-at.branch [
      | in-None w ↦ subst (IsFar os 1 i) (sym w.next-is) (far_none os i (listed_read os i _ _ l w.in-None.is))
      | in-Some w ↦ subst (IsFar os 1 i) (sym w.next-is) (far_one os i _ (listed_read os i _ _ l w.in-Some.is))
    ])
