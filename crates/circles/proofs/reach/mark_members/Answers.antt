use Rattle.std.proofs.Common.{◌≡◌, true, length, map, refl, subst, arith}
use Rattle.std.proofs.lemmas.List.{length-map}
use Rattle.type_table.specs.trees.declared.types.ListKind.TheVariants.{Sequence}
use Rattle.type_table.specs.Seen.{part_of}
use Rattle.circles.specs.Circles.{member}
use Rattle.circles.specs.proving.Reach.{Marks}
use Rattle.circles.proofs.Marking.{IsMemberBelow, members_none, members_more, members_all, part_at}
use Rattle.circles.proofs.reach.mark_members.Goals as goal

pub mark-requires : goal.mark-requires
mark-requires c =
    let here = c.requires Sequence true c.component-item.result.ty (member c.loop-component.component-index (part_of c.component-item.result) (part_at c.args.components.now c.loop-component.component-index c.component-item.result c.loop-component-test.true c.component-item.is) refl) in
    omega (arith, here, c.loop-component.invariant.long)

pub loop-component-init : goal.loop-component-init
loop-component-init c = members_none c.args.search (map part_of c.args.components.now) c.args.marks.now c.args.waiting.now.items

pub loop-component-preserved : goal.loop-component-preserved
loop-component-preserved c =
    members_more c.args.search c.loop-component.component-index (map part_of c.args.components.now) (part_of c.component-item.result) c.args.marks.now c.loop-component.marks c.mark.new.marks c.args.waiting.now.items c.loop-component.waiting.items c.mark.new.waiting.items
    (part_at c.args.components.now c.loop-component.component-index c.component-item.result c.loop-component-test.true c.component-item.is) c.loop-component.invariant c.in_ok-mark.ensures

pub returns : goal.returns
returns c =
    let all : c.loop-component.component-index ≡ length (map part_of c.args.components.now) = omega (arith, length-map c.args.components.now part_of, c.loop-component-test.false, c.loop-component.auto.component-index-end) in
    λ l b. members_all c.args.search l b (map part_of c.args.components.now) c.args.marks.now c.loop-component.marks c.args.waiting.now.items c.loop-component.waiting.items
    (subst (λ n. Marks c.args.search (λ j. IsMemberBelow (map part_of c.args.components.now) n j) c.args.marks.now c.loop-component.marks c.args.waiting.now.items c.loop-component.waiting.items) all c.loop-component.invariant)
