use Rattle.std.proofs.Common.{◌≤◌, ◌+◌, length}
use Rattle.primitive_reader.specs.proving.Spelled.{Counted}
use Rattle.primitive_reader.proofs.arcs.count_arcs.Given as goal

abbrev pub invariant-loop-rest : goal.invariant-loop-rest
invariant-loop-rest l = Counted l.count l.small l.rest l.octets × (l.count + length l.rest ≤ length l.octets)

abbrev pub decreases-loop-rest : goal.decreases-loop-rest
decreases-loop-rest l = length l.rest
