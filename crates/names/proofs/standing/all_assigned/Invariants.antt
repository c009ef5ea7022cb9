use Rattle.std.proofs.Common.{◌≡◌, ℕ, ◌<◌, Some, map}
use Rattle.std.specs.Prelude.{slice_get}
use Rattle.trees.specs.Values.{Name, name_at}
use Rattle.names.specs.Names.{names_of}
use Rattle.names.specs.Modules.{OccursIn}
use Rattle.names.specs.Scopes.{module_of}
use Rattle.names.proofs.standing.all_assigned.Given as goal

abbrev pub invariant-loop-i : goal.invariant-loop-i
invariant-loop-i l = (k : ℕ) (x : Name) → k < l.i → slice_get (map name_at l.names) k ≡ Some x → OccursIn (names_of (module_of l.scope).assigned) x
