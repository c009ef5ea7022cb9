use Rattle.asn_base.proofs.Judged.{Sought}
use Rattle.asn_base.proofs.groups.has_of_group.Given as goal

abbrev pub invariant-loop-i : goal.invariant-loop-i
invariant-loop-i g l = Sought l.number l.components (λ i. g.N.ValueNode.part_at l.fields i) (λ i. g.N.ValueNode.part_at l.left i) l.i
