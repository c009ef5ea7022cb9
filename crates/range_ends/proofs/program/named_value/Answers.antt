use Rattle.std.proofs.Common.{Some, ap, ◌∙◌}
use Rattle.range_ends.proofs.References.{value_there}
use Rattle.range_ends.proofs.program.named_value.Goals as goal

pub returns-in-Some-Value-clause-inside : goal.returns-in-Some-Value-clause-inside
returns-in-Some-Value-clause-inside c =
    value_there c.args.linked.now.program c.args.within.now _
    c.name.result.now c.refers.result c.in-Some-Value.number c.lemma_whole.ensures.names c.refers.ensures
    (c.in-Some-Value.is ∙ ap Some c.in-Some-Value.field-0-is)
