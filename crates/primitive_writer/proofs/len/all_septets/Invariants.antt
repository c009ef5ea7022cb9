use Rattle.std.proofs.Common.{◌≡◌, ◌+◌, ◌*◌, ◌≤◌, length, drop}
use Rattle.std.specs.Prelude.{flat_map}
use Rattle.encodings.specs.Header.{septets}
use Rattle.primitive_writer.proofs.len.all_septets.Given as goal

abbrev pub invariant-loop-i : goal.invariant-loop-i
invariant-loop-i l =
    (l.count + length (flat_map septets (drop l.i l.numbers)) ≡ length (flat_map septets l.numbers)) × (l.count ≤ 10 * l.i)
