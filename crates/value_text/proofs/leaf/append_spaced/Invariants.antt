use Rattle.std.proofs.Common.{◌≡◌, ◌++◌, [], drop, string_bytes}
use Rattle.value_text.specs.Print.{spaced}
use Rattle.value_text.proofs.Steps.{space_at}
use Rattle.value_text.proofs.leaf.append_spaced.Given as goal

abbrev pub invariant-loop-i : goal.invariant-loop-i
invariant-loop-i l =
    string_bytes l.out ++ spaced (space_at l.i) (drop l.i l.numbers) ≡ string_bytes l.fn.out ++ spaced [] l.numbers
