use Rattle.std.proofs.Common.{map, refl, arith}
use Rattle.std.proofs.lemmas.List.{length-map}
use Rattle.std.proofs.lemmas.Option.{slice_get-get_or}
use Rattle.names.specs.proving.Distinct.{item_at}
use Rattle.type_table.specs.Seen.{part_of}
use Rattle.values.proofs.Missings.{other_here, other_next, other_all}
use Rattle.values.proofs.order.has_other.Goals as goal

pub returns-then-is_of_group : goal.returns-then-is_of_group
returns-then-is_of_group c =
    let i = c.loop-i.i in
    let d = c.index-components-i.result in
    let here = item_at part_of c.args.components.now i d c.loop-i-test.true c.index-components-i.is in
    let l = c.loop-i-test.true in
    let r = c.requires in
    let o = other_here c.args.group (map part_of c.args.components.now) c.args.places.now i (part_of d) _ here
    (slice_get-get_or c.args.places.now i _ (omega (arith, l, r))) (c.is_of_group.ensures.0 c.if-is_of_group.true) in
    (λ t. o, λ h. refl)

pub loop-i-preserved : goal.loop-i-preserved
loop-i-preserved c =
    let i = c.loop-i.i in
    let d = c.index-components-i.result in
    let here = item_at part_of c.args.components.now i d c.loop-i-test.true c.index-components-i.is in
    let l = c.loop-i-test.true in
    let r = c.requires in
    other_next c.args.group (map part_of c.args.components.now) c.args.places.now i (part_of d) _ here
    (slice_get-get_or c.args.places.now i _ (omega (arith, l, r)))
    (λ q. let n = c.if-is_of_group.false in let e = c.is_of_group.ensures.1 q in cc) c.loop-i.invariant

pub returns : goal.returns
returns c =
    let long = length-map c.args.components.now part_of in
    let none = other_all c.args.group (map part_of c.args.components.now) c.args.places.now c.loop-i.i
    (omega (arith, long, c.loop-i-test.false)) c.loop-i.invariant in
    (λ t. absurd (cc), λ h. absurd (none h))
