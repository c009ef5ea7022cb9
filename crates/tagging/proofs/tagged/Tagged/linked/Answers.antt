use Rattle.std.proofs.Common.{subst}
use Rattle.resolve.specs.Program.{WrittenProgram}
use Rattle.tagging.specs.Tagged.{HaveOneFirst}
use Rattle.tagging.proofs.tagged.Tagged.linked.Goals as goal

pub returns-clause-one_first : goal.returns-clause-one_first
returns-clause-one_first c = subst (λ (p : WrittenProgram). HaveOneFirst p.program.types) c.self.view_is c.self.invariant.1
