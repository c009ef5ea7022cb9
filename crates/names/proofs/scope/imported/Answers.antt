use Rattle.names.specs.proving.Meanings.{under_found}
use Rattle.names.proofs.scope.imported.Goals as goal

pub returns : goal.returns
returns c = under_found _ c.args.scope.now.imports.entries c.args.name.now _ c.get.ensures.value
