use Rattle.asn_base.proofs.decide.is_shown_value.Goals as goal

pub is_within-requires-clause-ready : goal.is_within-requires-clause-ready
is_within-requires-clause-ready g c = c.kept-kept.ensures.ready _
