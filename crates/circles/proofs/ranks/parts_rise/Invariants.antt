use Rattle.std.proofs.Common.{◌≡◌, ℕ, ◌<◌, ◌≤◌, Some}
use Rattle.std.specs.Prelude.{slice_get, slice_index}
use Rattle.circles.specs.proving.Ranks.{parts}
use Rattle.type_table.specs.Seen.{type_of}
use Rattle.circles.proofs.ranks.parts_rise.Given as goal

abbrev pub invariant-loop-number : goal.invariant-loop-number
invariant-loop-number l = (n : ℕ) → n < l.number → (j : ℕ) → slice_get (parts (type_of l.written).kind) n ≡ Some j → l.rank ≤ slice_index l.ranks j
