use Rattle.names.specs.proving.Meanings.{under_found}
use Rattle.names.proofs.gather.given_in.Goals as goal

pub returns-clause-it : goal.returns-clause-it
returns-clause-it c = under_found _ c.args.assigned.now.entries c.args.name.now _ c.get.ensures.value

pub returns-clause-at : goal.returns-clause-at
returns-clause-at c = under_found _ c.args.assigned.now.entries c.args.name.now _ c.get.ensures.value
