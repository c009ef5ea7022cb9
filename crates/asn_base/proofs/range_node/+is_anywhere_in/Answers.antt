use mir.Syntax.{w128}
use Rattle.std.proofs.Common.{SFits, arith}
use Rattle.std.proofs.lemmas.Int.{to_z-of_z}
use Rattle.asn_base.proofs.Leaves.{yes}
use Rattle.asn_base.proofs.InTrees.{any_here, any_before, any_else}
use Rattle.asn_base.proofs.range_node.+is_anywhere_in.Goals as goal

pub returns-then-has : goal.returns-then-has
returns-then-has t c =
    let fits : SFits w128 c.args.number = c.ranges.number in
    let h = simp to_z-of_z at c.has.ensures in
    yes (any_here c.args.link.now c.in-Some.node c.deref-node.result.now c.args.number c.in-Some.is c.deref-node.ensures (h.0 c.if-has.true))

pub returns-then-is_anywhere_in : goal.returns-then-is_anywhere_in
returns-then-is_anywhere_in t c =
    let fits : SFits w128 c.args.number = c.ranges.number in
    let h = simp to_z-of_z at c.is_anywhere_in.ensures in
    yes (any_before c.args.link.now c.in-Some.node c.deref-node.result.now c.args.number c.in-Some.is c.deref-node.ensures (h.0 c.if-is_anywhere_in.true))

pub returns-else-is_anywhere_in : goal.returns-else-is_anywhere_in
returns-else-is_anywhere_in t c =
    let fits : SFits w128 c.args.number = c.ranges.number in
    let w = simp to_z-of_z at c.has.ensures in
    let v = simp to_z-of_z at c.is_anywhere_in.ensures in
    let h = simp to_z-of_z at c.is_anywhere_in-in-Some.ensures in
    any_else c.args.link.now c.in-Some.node c.deref-node.result.now c.deref-node.result.now
    c.deref-node.result.now c.args.number _ c.in-Some.is c.deref-node.ensures c.deref-node.ensures
    c.deref-node.ensures
    (λ i. absurd (let y = w.1 i in let n = c.if-has.false in grind arith))
    (λ i. absurd (let y = v.1 i in let n = c.if-is_anywhere_in.false in grind arith)) h
