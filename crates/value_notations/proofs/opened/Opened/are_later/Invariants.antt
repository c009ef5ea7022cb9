use Rattle.std.proofs.Common.{◌≡◌, ◌<◌, ℕ, Some}
use Rattle.std.specs.Prelude.{slice_get}
use Rattle.value_notations.proofs.opened.Opened.are_later.Given as goal

abbrev pub invariant-loop-i : goal.invariant-loop-i
invariant-loop-i l = record {
  later : (j x t : ℕ) → j < l.i → slice_get l.self-inside.numbers.keys j ≡ Some x → slice_get l.turns x ≡ Some t → l.latest < t;
}
