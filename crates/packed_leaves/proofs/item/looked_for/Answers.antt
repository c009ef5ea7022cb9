use mir.Syntax.{w128}
use mir.Val.{SFits, to_z, of_z}
use Rattle.std.proofs.Common.{rules, sym, ap, ◌∙◌}
use Rattle.std.proofs.lemmas.Int.{to_z-of_z}
use Rattle.packed_leaves.proofs.Leaves.{place_found, not_here}
use Rattle.packed_leaves.proofs.item.looked_for.Goals as goal

pub returns-then-items-i : goal.returns-then-items-i
returns-then-items-i c =
    let f : SFits w128 c.index-items-i.result.number = search rules in
    let same = to_z-of_z w128 c.args.number c.ranges.number in
    let is = sym (to_z-of_z w128 c.index-items-i.result.number f) ∙ ap (λ x. to_z w128 (of_z w128 x.number)) c.index-items-i.is ∙ ap (to_z w128) c.if-items-i.true ∙ same in
    place_found c.args.items.now c.loop-i.i c.index-items-i.result c.args.number c.loop-i-test.true c.index-items-i.is is

pub loop-i-preserved : goal.loop-i-preserved
loop-i-preserved c = λ h.
    not_here c.args.items.now c.loop-i.i c.index-items-i.result (to_z w128 (of_z w128 c.args.number)) c.loop-i-test.true c.index-items-i.is
    (λ e. c.if-items-i.false (ap (λ x. of_z w128 x.number) (sym c.index-items-i.is) ∙ ap (of_z w128) (e ∙ to_z-of_z w128 c.args.number c.ranges.number)))
    (c.loop-i.invariant h)
