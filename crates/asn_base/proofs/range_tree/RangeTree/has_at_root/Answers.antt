use mir.Syntax.{w128}
use Rattle.std.proofs.Common.{subst}
use Rattle.std.proofs.lemmas.Int.{to_z-of_z}
use Rattle.asn_base.specs.Typed.{IsInRange, IsInSome}
use Rattle.asn_base.proofs.InTrees.{any_here}
use Rattle.asn_base.proofs.Unrolled.{top}
use Rattle.asn_base.proofs.range_tree.RangeTree.has_at_root.Goals as goal

pub returns-in-Some : goal.returns-in-Some
returns-in-Some c = λ t.
    let n = c.deref.result.now in
    let i = subst (λ z. IsInRange z (top n)) (to_z-of_z w128 c.args.number c.ranges.number) (c.has.ensures.0 t) in
    subst (IsInSome c.args.number) c.self.view_is
    (any_here c.self.inside.root c.in-Some.node n c.args.number c.in-Some.is c.deref.ensures i)
