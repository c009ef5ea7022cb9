use Rattle.std.proofs.Common.{rules}
use Rattle.names.specs.proving.Meanings.{refers_bare, refers_within, refers_across}
use Rattle.names.proofs.scope.Names.refers.Goals as goal

pub returns-in-None : goal.returns-in-None
returns-in-None c = rw c.in-None.is (refers_bare _ _ _ _ c.find.ensures)

pub returns-then-eq : goal.returns-then-eq
returns-then-eq c = rw c.in-Some.is (refers_within _ _ _ _ _ (search rules) c.find-then-eq.ensures)

pub returns-then-eq-2 : goal.returns-then-eq-2
returns-then-eq-2 c = rw c.in-Some.is (refers_across _ _ _ _ _ (search rules) c.find-then-eq-2.ensures)
