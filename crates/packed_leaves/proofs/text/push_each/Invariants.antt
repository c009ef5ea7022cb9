use Rattle.std.proofs.Common.{◌≡◌, ◌++◌, map, length}
use Rattle.packed_encodings.specs.Lengths.{all_bits}
use Rattle.packed_encodings.specs.Computed.{character_bits}
use Rattle.packed_leaves.proofs.text.push_each.Given as goal

abbrev pub invariant-loop-front : goal.invariant-loop-front
invariant-loop-front l =
    l.out ++ all_bits (map (character_bits l.alphabet.codes.now) l.rest) ≡ l.fn.out ++ all_bits (map (character_bits l.alphabet.codes.now) l.text)

abbrev pub decreases-loop-front : goal.decreases-loop-front
decreases-loop-front l = length l.rest
