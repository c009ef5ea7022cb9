use Rattle.names.specs.proving.Meanings.{under_found}
use Rattle.names.proofs.scope.scope_of.Goals as goal

pub returns : goal.returns
returns c = under_found _ c.args.modules.now.entries c.args.name.now _ c.get.ensures.value
