use Rattle.std.proofs.Common.{drop, map}
use Rattle.std.specs.Prelude.{◌↔◌}
use Rattle.asn_base.specs.Seen.{range_of}
use Rattle.asn_base.specs.Typed.{IsInSome}
use Rattle.asn_base.proofs.allowed.is_in_some.Given as goal

abbrev pub invariant-loop-i : goal.invariant-loop-i
invariant-loop-i l = IsInSome l.number (map range_of l.ranges) ↔ IsInSome l.number (drop l.i (map range_of l.ranges))
