use Rattle.std.proofs.Common.{◌≡◌, ◌++◌, ◌<◌, ◌*◌, ℕ, length, take, drop}
use Rattle.std.specs.Prelude.{replicate, slice_index}
use Rattle.std.specs.Int.Digits.{number_from_digits}
use Rattle.value_notations.proofs.digits.hex_octets.Given as goal

abbrev pub invariant-loop-zero : goal.invariant-loop-zero
invariant-loop-zero l = l.padded.items ≡ l.digits ++ replicate l.zero 0

abbrev pub invariant-loop-i : goal.invariant-loop-i
invariant-loop-i l = record {
  long : length l.octets.items ≡ l.i;
  each : (k : ℕ) → k < l.i → slice_index l.octets.items k ≡ number_from_digits 16 (take 2 (drop (2 * k) l.padded.items));
}
