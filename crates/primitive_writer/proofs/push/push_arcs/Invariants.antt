use Rattle.std.proofs.Common.{◌≡◌, ◌++◌, drop}
use Rattle.std.specs.Prelude.{flat_map}
use Rattle.std.specs.Io.{StartsWith}
use Rattle.encodings.specs.Header.{septets}
use Rattle.primitive_writer.proofs.push.push_arcs.Given as goal

abbrev pub invariant-loop-i : goal.invariant-loop-i
invariant-loop-i l =
    (l.out.items ++ flat_map septets (drop l.i l.numbers) ≡ l.fn.out.items ++ flat_map septets l.numbers)
    × StartsWith l.out.items l.fn.out.items
