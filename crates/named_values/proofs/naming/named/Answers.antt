use Rattle.named_values.proofs.Dots.{named_there}
use Rattle.named_values.proofs.naming.named.Goals as goal

pub returns-in-Some-clause-there : goal.returns-in-Some-clause-there
returns-in-Some-clause-there c = named_there c.args.linked.now.program c.in-Some.within.now c.in-Some.name.now c.meaning.result c.lemma_whole.ensures.names c.meaning.ensures
