use Rattle.std.proofs.Common.{◌≡◌, ◌+◌, ◌-◌, ◌/◌, suc, length, Some, refl, sym, ap, ◌∙◌, arith}
use Rattle.std.specs.Prelude.{slice_get}
use Rattle.std.proofs.lemmas.Option.{slice_get_read}
use Rattle.range_ends.specs.proving.Trees.{leaf_below}
use Rattle.range_ends.proofs.Leaves.{below_fork}
use Rattle.range_ends.proofs.forks.leaf_from.Goals as goal

pub loop-level-preserved : goal.loop-level-preserved
loop-level-preserved c =
    let fs = c.args.forks.now in
    let s = c.loop-level.level in
    let at = c.loop-level.at in
    let rest = c.loop-level.rest in
    let f = c.in-Some.fork.now in
    let e : slice_get fs at ≡ Some f = slice_get_read fs (length fs) at f refl c.in-Some.ensures.lookup.3.0 c.in-Some.ensures.lookup.1 in
    let q : c.args.levels - s ≡ suc (c.args.levels - (s + 1)) = omega (arith, c.loop-level-test.true) in
    ap (λ j. leaf_below fs (c.args.levels - (s + 1)) j (rest / 2)) c.branch-at.ensures
    ∙ sym (below_fork fs (c.args.levels - (s + 1)) at rest f e) ∙ sym (ap (λ l. leaf_below fs l at rest) q) ∙ c.loop-level.invariant
