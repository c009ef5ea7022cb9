use Rattle.std.proofs.Common.{Some, ap, ◌∙◌}
use Rattle.names.specs.declared.scope.Assigned.TheVariants as assigned
use Rattle.value_notations.proofs.Leading.{value_there}
use Rattle.value_notations.proofs.references.named_value.Goals as goal

pub returns-in-Some-Value-clause-inside : goal.returns-in-Some-Value-clause-inside
returns-in-Some-Value-clause-inside c =
    value_there c.args.linked.now.program c.args.within.now _
    c.name.result.now c.in-Some-Value.number c.lemma_whole.ensures.names
    ((c.refers.ensures (assigned.Value c.in-Some-Value.number)).0 (c.in-Some-Value.is ∙ ap Some c.in-Some-Value.field-0-is))
