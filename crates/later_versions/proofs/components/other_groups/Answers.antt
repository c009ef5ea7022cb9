use Rattle.std.proofs.Common.{arith, length, map}
use Rattle.std.proofs.lemmas.List.{length-map}
use Rattle.std.proofs.lemmas.Option.{slice_get_within}
use Rattle.asn_base.specs.Seen.{component_of}
use Rattle.later_versions.proofs.Fronts.{beq_false, beq_true}
use Rattle.later_versions.proofs.Joined.{other_grouped, other_joined, same_next}
use Rattle.later_versions.proofs.components.other_groups.Goals as goal

pub loop-i-preserved : goal.loop-i-preserved
loop-i-preserved c =
    same_next (map component_of c.args.components.now) (map component_of c.args.others.now) c.loop-i.i
    (beq_true c.is_grouped.result c.is_grouped-in-loop-i.result c.if-is_grouped.false c.is_grouped.ensures c.is_grouped-in-loop-i.ensures)
    (beq_true c.is_joined.result c.is_joined-in-loop-i.result c.if-is_joined.false c.is_joined.ensures c.is_joined-in-loop-i.ensures)
    c.loop-i.invariant

pub returns-then-is_grouped : goal.returns-then-is_grouped
returns-then-is_grouped c =
    let n = length-map c.args.components.now component_of in
    let l = c.loop-i-test.true in
    other_grouped (map component_of c.args.components.now) (map component_of c.args.others.now) c.loop-i.i (omega (arith, n, l)) c.loop-i.invariant
    (beq_false c.is_grouped.result c.is_grouped-in-loop-i.result c.if-is_grouped.true c.is_grouped.ensures c.is_grouped-in-loop-i.ensures)

pub returns-then-is_joined : goal.returns-then-is_joined
returns-then-is_joined c =
    let n = length-map c.args.components.now component_of in
    let l = c.loop-i-test.true in
    other_joined (map component_of c.args.components.now) (map component_of c.args.others.now) c.loop-i.i (omega (arith, n, l)) c.loop-i.invariant
    (beq_false c.is_joined.result c.is_joined-in-loop-i.result c.if-is_joined.true c.is_joined.ensures c.is_joined-in-loop-i.ensures)

pub returns-then-is_joined-2 : goal.returns-then-is_joined-2
returns-then-is_joined-2 c =
    let cs = map component_of c.args.components.now in
    let ds = map component_of c.args.others.now in
    let k = length c.args.components.now in
    let n = length-map c.args.components.now component_of in
    let so = c.loop-i.invariant in
    let e = c.loop-i-test.false in
    other_joined cs ds k (omega (arith, n))
    (record { grouped = λ i l. so.grouped i (omega (arith, e, l)); joined = λ i l. so.joined i (omega (arith, e, l)) })
    (λ b.
    let j = b.1 (c.is_joined-2.ensures.0 c.if-is_joined-2.true) in
    let w = slice_get_within cs k j.one.second j.one.at_second in
    omega (arith, w, n))
