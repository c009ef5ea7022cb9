use Rattle.tagging.proofs.tagged.named.Goals as goal

pub returns-clause-first : goal.returns-clause-first
returns-clause-first c = λ ws f. c.fault_at.ensures.first c.args.columns.now.program ws c.args.ty f c.home-home.ensures
