use Rattle.front_end.proofs.Excluding.{same_program}
use Rattle.front_end.proofs.law.one_program.Goals as goal

pub returns : goal.returns
returns c = same_program c.one_list.ensures c.one_program.ensures
