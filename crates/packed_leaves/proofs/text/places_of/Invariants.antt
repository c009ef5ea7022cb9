use Rattle.std.proofs.Common.{◌≡◌, ℕ, ◌+◌, ◌<◌, ◌≤◌, drop, length, slice_index}
use Rattle.packed_encodings.specs.Computed.{code_place}
use Rattle.packed_leaves.proofs.text.places_of.Given as goal

abbrev pub invariant-loop-at : goal.invariant-loop-at
invariant-loop-at l = record {
  many : length l.places ≡ 256;
  few : l.at ≤ length l.codes;
  are : (c : ℕ) → c < 256 → slice_index l.places c ≡ l.at + code_place (drop l.at l.codes) c;
}

abbrev pub decreases-loop-at : goal.decreases-loop-at
decreases-loop-at l = l.at
