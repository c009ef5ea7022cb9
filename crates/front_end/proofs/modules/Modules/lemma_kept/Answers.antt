use Rattle.std.proofs.Common.{subst}
use Rattle.front_end.specs.Accepted.{IsCheckedProgram}
use Rattle.front_end.proofs.modules.Modules.lemma_kept.Goals as goal

pub returns : goal.returns
returns c = subst IsCheckedProgram c.self.view_is c.self.invariant.kept
