use Rattle.std.proofs.Common.{◌≡◌, drop}
use Rattle.bits.specs.Words.{word_bits}
use Rattle.packed_encodings.specs.Computed.{is_below}
use Rattle.packed_writer.proofs.items.are_below.Given as goal

abbrev pub invariant-loop-place : goal.invariant-loop-place
invariant-loop-place l =
    is_below (word_bits l.firsts) (word_bits l.seconds)
    ≡ is_below (word_bits (drop l.place l.firsts)) (word_bits (drop l.place l.seconds))
