use Rattle.asn_base.proofs.Rooted.{InRoot}
use Rattle.asn_base.proofs.additions.are_in_root.Given as goal

abbrev pub invariant-loop-i : goal.invariant-loop-i
invariant-loop-i g l = InRoot l.known.types.now l.known.levels l.components l.size (λ i. g.N.ValueNode.part_at l.fn.fields i) (λ i. g.N.ValueNode.part_at l.left i) l.i
