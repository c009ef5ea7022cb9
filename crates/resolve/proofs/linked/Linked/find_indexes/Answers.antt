use Rattle.std.proofs.Common.{List, subst}
use Rattle.type_table.specs.declared.table.TypeNode.{TypeNode}
use Rattle.resolve.specs.proving.Ordered.{AreIndexes}
use Rattle.resolve.proofs.linked.Linked.find_indexes.Goals as goal

pub invariant_of-self : goal.invariant_of-self
invariant_of-self c = (
  c.self.invariant.0,
  c.self.invariant.1,
  subst (λ (ts : List TypeNode). AreIndexes ts c.in_ok-self-inside.field-0.items) c.deref.ensures.value c.in_ok-self-inside.ensures,
)
