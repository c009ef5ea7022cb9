use Rattle.std.proofs.Common.{◌≡◌, ◌++◌, drop, map}
use Rattle.asn_base.specs.Seen.{alternative_of}
use Rattle.asn_base.specs.proving.Firsts.{alternative_heads, key}
use Rattle.asn_base.proofs.first_tags.add_heads.Given as goal

abbrev pub invariant-loop-i : goal.invariant-loop-i
invariant-loop-i l = l.keys.items ++ map (key l.run) (alternative_heads l.types (drop l.i (map alternative_of l.alternatives))) ≡ l.fn.keys.items ++ map (key l.run) (alternative_heads l.types (map alternative_of l.alternatives))
