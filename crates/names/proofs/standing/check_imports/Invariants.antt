use Rattle.std.proofs.Common.{◌≡◌, ℕ, ◌<◌, Some}
use Rattle.std.specs.Prelude.{slice_get}
use Rattle.trees.specs.Values.{Name}
use Rattle.names.specs.proving.Standing.{IsOffered}
use Rattle.names.specs.Scopes.{origins, scopes}
use Rattle.names.proofs.standing.check_imports.Given as goal

abbrev pub invariant-loop-i : goal.invariant-loop-i
invariant-loop-i l = (k : ℕ) (i : Name × Name) → k < l.i → slice_get (origins l.imports.entries) k ≡ Some i → IsOffered (scopes l.modules.entries) i.1 i.0
