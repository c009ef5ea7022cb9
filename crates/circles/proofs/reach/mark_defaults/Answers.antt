use Rattle.std.proofs.Common.{◌≡◌, length, map, refl, subst, arith}
use Rattle.std.proofs.lemmas.List.{length-map}
use Rattle.type_table.specs.Seen.{part_of}
use Rattle.circles.specs.proving.Reach.{Marks}
use Rattle.circles.proofs.Marking.{IsDefaultedBelow, defaults_none, defaults_more, defaults_all, part_at}
use Rattle.circles.proofs.reach.mark_defaults.Goals as goal

pub mark_default-requires : goal.mark_default-requires
mark_default-requires c = λ d.
    let here = c.requires c.component-item.result.ty (record { number = c.loop-component.component-index; component = part_of c.component-item.result; held = part_at c.args.components.now c.loop-component.component-index c.component-item.result c.loop-component-test.true c.component-item.is; defaulted = d; ty = refl }) in
    omega (arith, here, c.loop-component.invariant.long)

pub loop-component-init : goal.loop-component-init
loop-component-init c = defaults_none c.args.search (map part_of c.args.components.now) c.args.marks.now c.args.waiting.now.items

pub loop-component-preserved : goal.loop-component-preserved
loop-component-preserved c =
    defaults_more c.args.search c.loop-component.component-index (map part_of c.args.components.now) (part_of c.component-item.result) c.args.marks.now c.loop-component.marks c.mark_default.new.marks c.args.waiting.now.items c.loop-component.waiting.items c.mark_default.new.waiting.items
    (part_at c.args.components.now c.loop-component.component-index c.component-item.result c.loop-component-test.true c.component-item.is) c.loop-component.invariant c.in_ok-mark_default.ensures

pub returns : goal.returns
returns c =
    let all : c.loop-component.component-index ≡ length (map part_of c.args.components.now) = omega (arith, length-map c.args.components.now part_of, c.loop-component-test.false, c.loop-component.auto.component-index-end) in
    defaults_all c.args.search (map part_of c.args.components.now) c.args.marks.now c.loop-component.marks c.args.waiting.now.items c.loop-component.waiting.items
    (subst (λ n. Marks c.args.search (λ j. IsDefaultedBelow (map part_of c.args.components.now) n j) c.args.marks.now c.loop-component.marks c.args.waiting.now.items c.loop-component.waiting.items) all c.loop-component.invariant)
