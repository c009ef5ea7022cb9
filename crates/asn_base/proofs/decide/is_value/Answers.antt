use Rattle.asn_base.proofs.decide.is_value.Goals as goal

pub is_value_of-requires-clause-ready : goal.is_value_of-requires-clause-ready
is_value_of-requires-clause-ready c = c.kept-kept.ensures.ready _
