use Rattle.type_table.proofs.Knowing.{core_not_circular}
use Rattle.type_table.proofs.unfolding.not_both.Goals as goal

pub returns : goal.returns
returns c = core_not_circular
