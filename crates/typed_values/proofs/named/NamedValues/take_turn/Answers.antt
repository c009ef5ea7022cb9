use Rattle.typed_values.proofs.named.NamedValues.take_turn.Goals as goal

pub returns-clause-counted : goal.returns-clause-counted
returns-clause-counted c = (c.give_turn.result, c.give_turn.ensures.has, c.later.ensures.other)
