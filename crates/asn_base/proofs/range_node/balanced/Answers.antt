use Rattle.std.proofs.Common.{ap, sym}
use Rattle.std.specs.Prelude.{◌++◌, ◌∷◌}
use Rattle.asn_base.specs.Trees.{ranges_in}
use Rattle.asn_base.proofs.Unrolled.{keeps, there}
use Rattle.asn_base.proofs.range_node.balanced.Goals as goal

pub returns-then-height-saturating_add : goal.returns-then-height-saturating_add
returns-then-height-saturating_add c =
    keeps c.turn_before.result ranges_in _ _ c.turn_before.ensures
    (ap (λ q. q ++ (c.args.range.now ∷ ranges_in c.args.after.now)) (sym (there c.args.before.now c.in-Some.node c.deref.result.now c.in-Some.is c.deref.ensures)))

pub returns-then-height-saturating_add-2 : goal.returns-then-height-saturating_add-2
returns-then-height-saturating_add-2 c =
    keeps c.turn_after.result ranges_in _ _ c.turn_after.ensures
    (ap (λ q. ranges_in c.args.before.now ++ (c.args.range.now ∷ q)) (sym (there c.args.after.now c.in-Some-after.node c.deref-then-height-saturating_add-2.result.now c.in-Some-after.is c.deref-then-height-saturating_add-2.ensures)))
