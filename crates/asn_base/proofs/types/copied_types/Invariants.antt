use Rattle.std.proofs.Common.{◌≡◌, map, take}
use Rattle.asn_base.specs.Seen.{resolved_of}
use Rattle.asn_base.proofs.types.copied_types.Given as goal

abbrev pub invariant-loop-i : goal.invariant-loop-i
invariant-loop-i l = map resolved_of l.copies.items ≡ take l.i (map resolved_of l.types)
