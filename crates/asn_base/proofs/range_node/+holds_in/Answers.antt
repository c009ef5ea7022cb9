use mir.Syntax.{w128}
use Rattle.std.proofs.Common.{SFits, arith, sym, ◌∙◌}
use Rattle.std.proofs.lemmas.Int.{to_z-of_z}
use Rattle.asn_base.proofs.InTrees.{find_after, find_here, find_before}
use Rattle.asn_base.proofs.range_node.+holds_in.Goals as goal

pub returns-then-ends_below : goal.returns-then-ends_below
returns-then-ends_below t c =
    let fits : SFits w128 c.args.number = c.ranges.number in
    let s = simp to_z-of_z at c.ends_below.ensures in
    let h = simp to_z-of_z at c.holds_in.ensures in
    find_after c.args.link.now c.in-Some.node c.deref-node.result.now c.deref-node.result.now c.args.number _
    c.in-Some.is c.deref-node.ensures c.deref-node.ensures (sym c.if-ends_below.true ∙ s) h

pub returns-then-has : goal.returns-then-has
returns-then-has t c =
    let fits : SFits w128 c.args.number = c.ranges.number in
    let h = simp to_z-of_z at c.has.ensures in
    λ a. find_here c.args.link.now c.in-Some.node c.deref-node.result.now c.args.number _ c.in-Some.is
    c.deref-node.ensures c.if-has.true (h.0 c.if-has.true)

pub returns-else-has : goal.returns-else-has
returns-else-has t c =
    let fits : SFits w128 c.args.number = c.ranges.number in
    let s = simp to_z-of_z at c.ends_below.ensures in
    let w = simp to_z-of_z at c.has.ensures in
    let h = simp to_z-of_z at c.holds_in-else-has.ensures in
    find_before c.args.link.now c.in-Some.node c.deref-node.result.now c.deref-node.result.now
    c.deref-node.result.now c.args.number _ c.in-Some.is c.deref-node.ensures c.deref-node.ensures
    c.deref-node.ensures (sym c.if-ends_below.false ∙ s)
    (λ i. absurd (let y = w.1 i in let n = c.if-has.false in grind arith)) h
