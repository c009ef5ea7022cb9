use Rattle.std.proofs.Common.{◌≡◌, ◌<◌, ℕ, Some}
use Rattle.std.specs.Prelude.{slice_get}
use Rattle.type_table.specs.Seen.{kind_of}
use Rattle.resolve.specs.Listed.{listed_names}
use Rattle.resolve.proofs.named_shape.place_in_turn.Given as goal

abbrev pub invariant-loop-place : goal.invariant-loop-place
invariant-loop-place l =
    (j : ℕ) → j < l.place → slice_get (listed_names (kind_of l.shape)) j ≡ Some l.name → ⊥
