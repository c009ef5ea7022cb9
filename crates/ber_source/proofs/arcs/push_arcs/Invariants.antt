use Rattle.std.proofs.Common.{◌≡◌, ◌+◌, ◌^◌, ◌<◌, ◌≤◌, List, ℕ, length}
use Rattle.std.specs.Prelude.{flat_map, vec_capacity, vec_len}
use Rattle.std.specs.List.{AllByRecursion}
use Rattle.encodings.specs.Header.{septets}
use Rattle.primitive_reader.specs.proving.Adding.{Adding}
use Rattle.ber_source.proofs.arcs.push_arcs.Given as goal

abbrev pub invariant-loop-first : goal.invariant-loop-first
invariant-loop-first l = (vec_len l.arcs + length l.rest ≤ vec_capacity l.arcs)
    × ((ns : List ℕ) → AllByRecursion (λ n. n < 2 ^ 64) ns → l.octets ≡ flat_map septets ns → Adding ns l.fn.arcs.items l.arcs.items l.rest)

abbrev pub decreases-loop-first : goal.decreases-loop-first
decreases-loop-first l = length l.rest
