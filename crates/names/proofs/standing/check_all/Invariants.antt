use Rattle.std.proofs.Common.{◌≡◌, ℕ, ◌<◌, Some}
use Rattle.std.specs.Prelude.{slice_get}
use Rattle.trees.specs.Values.{Name}
use Rattle.names.specs.proving.Standing.{ExportAssigned, ImportOffered}
use Rattle.names.specs.Names.{Module}
use Rattle.names.specs.Scopes.{scopes}
use Rattle.names.proofs.standing.check_all.Given as goal

abbrev pub invariant-loop-i : goal.invariant-loop-i
invariant-loop-i l = (k : ℕ) (m : Name × Module) → k < l.i → slice_get (scopes l.modules.entries) k ≡ Some m → ExportAssigned m.1 × ImportOffered (scopes l.modules.entries) m.1.imports
