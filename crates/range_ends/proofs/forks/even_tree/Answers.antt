use Rattle.std.proofs.Common.{◌≡◌, ◌+◌, suc, Some, sym, subst, arith}
use Rattle.range_ends.specs.proving.Trees.{leaf_below}
use Rattle.range_ends.proofs.Leaves.{leads_evenly}
use Rattle.range_ends.proofs.forks.even_tree.Goals as goal

pub loop-level-preserved : goal.loop-level-preserved
loop-level-preserved c =
    let old = c.loop-level.forks.all.items in
    let new = c.add.new.forks.items in
    let v = c.loop-level.invariant in
    let q : suc c.loop-level.level ≡ c.loop-level.level + 1 = omega arith in
    record {
      levels = v.levels;
      kept = λ l root n u h. c.in_ok-at.ensures.kept l root n u (v.kept l root n u h);
      leads = λ n. subst (λ l. leaf_below new l c.in_ok-at.at n ≡ Some c.args.leaf) q
          (leads_evenly old new c.loop-level.level c.loop-level.at c.in_ok-at.at c.args.leaf c.in_ok-at.ensures.kept
          c.in_ok-at.ensures.there v.leads n);
    }

pub returns-clause-kept : goal.returns-clause-kept
returns-clause-kept c = λ root n u h.
    let v = c.loop-level.invariant in
    subst (λ l. leaf_below c.loop-level.forks.all.items l root n ≡ Some u) (sym v.levels)
    (v.kept c.args.forks.now.levels root n u h)
