use Rattle.std.proofs.Common.{◌≡◌, ◌++◌, ◌<◌, ◌*◌, ℕ, length, take, drop}
use Rattle.std.specs.Prelude.{replicate, slice_index}
use Rattle.std.specs.Int.Digits.{number_from_digits}
use Rattle.value_notations.proofs.digits.bit_octets.Given as goal

abbrev pub invariant-loop-zero : goal.invariant-loop-zero
invariant-loop-zero l = l.padded.items ≡ l.digits ++ replicate l.zero 0

abbrev pub invariant-loop-i : goal.invariant-loop-i
invariant-loop-i l = record {
  long : length l.octets.items ≡ l.i;
  each : (k : ℕ) → k < l.i → slice_index l.octets.items k ≡ number_from_digits 2 (take 8 (drop (8 * k) l.padded.items));
}
