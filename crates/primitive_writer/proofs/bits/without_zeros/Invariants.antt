use Rattle.std.proofs.Common.{◌≡◌, ◌≤◌, ◌++◌, ◌-◌, length, take}
use Rattle.std.specs.Prelude.{replicate}
use Rattle.primitive_writer.proofs.bits.without_zeros.Given as goal

abbrev pub invariant-loop-count : goal.invariant-loop-count
invariant-loop-count l =
    (l.count ≤ length l.octets) × (l.octets ≡ take l.count l.octets ++ replicate (length l.octets - l.count) 0)

abbrev pub decreases-loop-count : goal.decreases-loop-count
decreases-loop-count l = l.count
