use Rattle.std.proofs.Common.{arith, refl, map}
use Rattle.std.proofs.lemmas.List.{length-map}
use Rattle.type_table.specs.Seen.{part_of}
use Rattle.circles.proofs.Marking.{part_at}
use Rattle.circles.proofs.Rising.{above_more, above_all}
use Rattle.circles.proofs.ranks.defaults_rise.Goals as goal

pub loop-component-init : goal.loop-component-init
loop-component-init c = λ j h. absurd (omega (arith, h.few))

pub loop-component-preserved : goal.loop-component-preserved
loop-component-preserved c =
    above_more c.args.rank c.args.ranks.now (map part_of c.args.components.now) c.loop-component.component-index (part_of c.component-item.result)
    (part_at c.args.components.now c.loop-component.component-index c.component-item.result c.loop-component-test.true c.component-item.is) c.loop-component.invariant (c.if-not-default_rises.ensures refl)

pub returns : goal.returns
returns c = λ t.
    above_all c.args.rank c.args.ranks.now (map part_of c.args.components.now) c.loop-component.component-index
    (omega (arith, length-map c.args.components.now part_of, c.loop-component-test.false, c.loop-component.auto.component-index-end)) c.loop-component.invariant
