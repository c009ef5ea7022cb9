use Rattle.typed_values.proofs.Found.{later_on}
use Rattle.typed_values.proofs.levels.Defaults.chain_from.Goals as goal

pub returns-clause-later : goal.returns-clause-later
returns-clause-later c = later_on c.path_from-path.ensures.later c.settle_all.ensures.later
