use Rattle.std.proofs.Common.{◌≡◌, ℕ, ◌<◌, Some}
use Rattle.std.specs.Prelude.{slice_get, slice_index}
use Rattle.circles.specs.proving.Ranks.{AreFrom}
use Rattle.type_table.specs.Seen.{types_of}
use Rattle.type_table.specs.Table.{Type'}
use Rattle.circles.proofs.ranks.all_rise.Given as goal

abbrev pub invariant-loop-ty : goal.invariant-loop-ty
invariant-loop-ty l = (i : ℕ) → i < l.ty → (t : Type') → slice_get (types_of l.types) i ≡ Some t → AreFrom (slice_index l.ranks i) l.ranks t.kind
