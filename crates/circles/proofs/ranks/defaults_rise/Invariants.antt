use Rattle.std.proofs.Common.{ℕ, ◌<◌, map}
use Rattle.std.specs.Prelude.{slice_index}
use Rattle.type_table.specs.Seen.{part_of}
use Rattle.circles.proofs.Marking.{IsDefaultedBelow}
use Rattle.circles.proofs.ranks.defaults_rise.Given as goal

abbrev pub invariant-loop-component : goal.invariant-loop-component
invariant-loop-component l = (j : ℕ) → IsDefaultedBelow (map part_of l.components) l.component-index j → l.rank < slice_index l.ranks j
