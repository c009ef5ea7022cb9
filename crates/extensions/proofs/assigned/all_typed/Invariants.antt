use Rattle.typed_values.specs.Known.{AreKnown}
use Rattle.std.proofs.Common.{ℕ, ◌<◌}
use Rattle.extensions.specs.Faults.{IsTypedValue}
use Rattle.extensions.proofs.assigned.all_typed.Given as goal

abbrev pub invariant-loop-number : goal.invariant-loop-number
invariant-loop-number l = ((j : ℕ) → j < l.number → IsTypedValue l.bounded.program j) × AreKnown l.bounded.program l.defaults
