use mir.Syntax.{w128}
use mir.Val.{to_z, of_z, SFits}
use Rattle.std.proofs.Common.{rules, subst, ◌<ℤ◌}
use Rattle.std.proofs.lemmas.Int.{to_z-of_z}
use Rattle.additions.proofs.Rising.{rises_more}
use Rattle.additions.proofs.items.falling.Goals as goal

pub loop-at-preserved : goal.loop-at-preserved
loop-at-preserved c =
    let x = c.number_at.result in
    let w = c.number_at-in-loop-at.result in
    let fx : SFits w128 c.number_at.result = search rules in
    let fw : SFits w128 c.number_at-in-loop-at.result = search rules in
    let lt = subst (λ v. v <ℤ w) (to_z-of_z w128 x fx) (subst (λ v. to_z w128 (of_z w128 x) <ℤ v) (to_z-of_z w128 w fw) (c.falls.ensures.rises c.if-falls.false)) in
    rises_more c.args.numbers.now c.args.from c.loop-at.at x w c.loop-at.auto.at c.number_at.ensures c.number_at-in-loop-at.ensures lt c.loop-at.invariant
