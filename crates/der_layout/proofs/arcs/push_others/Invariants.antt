use Rattle.std.proofs.Common.{◌≡◌, ◌++◌, drop}
use Rattle.std.specs.Prelude.{flat_map}
use Rattle.encodings.specs.Header.{septets}
use Rattle.der_layout.proofs.arcs.push_others.Given as goal

abbrev pub invariant-loop-i : goal.invariant-loop-i
invariant-loop-i l = l.out.items ++ flat_map septets (drop l.i l.numbers) ≡ l.fn.out.items ++ flat_map septets l.numbers
