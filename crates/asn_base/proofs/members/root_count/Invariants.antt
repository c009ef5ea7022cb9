use Rattle.std.proofs.Common.{◌≡◌, ◌+◌, length, drop, map}
use Rattle.asn_base.specs.Seen.{component_of}
use Rattle.asn_base.specs.Rules.{root_of}
use Rattle.asn_base.proofs.members.root_count.Given as goal

abbrev pub invariant-loop-i : goal.invariant-loop-i
invariant-loop-i l = length (root_of (map component_of l.components)) ≡ l.i + length (root_of (drop l.i (map component_of l.components)))
