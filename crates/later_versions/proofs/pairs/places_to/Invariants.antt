use Rattle.std.proofs.Common.{◌≡◌, ◌<◌, ◌++◌, ℕ, List, Some, length, reverse}
use Rattle.std.specs.Prelude.{slice_get}
use Rattle.later_versions.specs.proving.Pairs.{ArePaths}
use Rattle.later_versions.proofs.pairs.places_to.Given as goal

abbrev pub invariant-loop-now : goal.invariant-loop-now
invariant-loop-now l =
    (l.now < length l.list)
    × ((paths : List (List ℕ))
    → ArePaths l.list paths
    → (path : List ℕ)
    → slice_get paths l.now ≡ Some path
    → slice_get paths l.at ≡ Some (path ++ reverse l.places.items))

abbrev pub decreases-loop-now : goal.decreases-loop-now
decreases-loop-now l = l.now
