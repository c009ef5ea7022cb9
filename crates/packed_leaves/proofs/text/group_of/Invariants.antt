use Rattle.std.proofs.Common.{◌≡◌, ◌++◌, ◌*◌, ◌^◌, ◌<◌, map, drop}
use Rattle.bits.specs.Words.{low_bits}
use Rattle.packed_encodings.specs.Lengths.{all_bits}
use Rattle.packed_encodings.specs.Computed.{character_bits}
use Rattle.packed_leaves.proofs.text.group_of.Given as goal

abbrev pub invariant-loop-code : goal.invariant-loop-code
invariant-loop-code l = record {
  bits : low_bits (l.code-index * l.alphabet.width) l.number ++ all_bits (map (character_bits l.alphabet.codes.now) (drop l.code-index l.text)) ≡ all_bits (map (character_bits l.alphabet.codes.now) l.text);
  small : l.number < 2 ^ (l.code-index * l.alphabet.width);
}
