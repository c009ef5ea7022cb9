use Rattle.typed_values.proofs.chained.is_last.Goals as goal

pub returns-in-Itself-clause-own : goal.returns-in-Itself-clause-own
returns-in-Itself-clause-own c = λ yes.
    let w = c.in-Itself.ensures in
    record { within = w.within; notation = w.notation; there = w.there; own = w.reports }
