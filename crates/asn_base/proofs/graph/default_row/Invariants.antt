use Rattle.std.proofs.Common.{◌≡◌, ◌++◌, drop, map}
use Rattle.asn_base.specs.Seen.{component_of}
use Rattle.asn_base.specs.proving.Reaching.{default_types}
use Rattle.asn_base.proofs.graph.default_row.Given as goal

abbrev pub invariant-loop-i : goal.invariant-loop-i
invariant-loop-i l = l.row.items ++ default_types (drop l.i (map component_of l.components)) ≡ default_types (map component_of l.components)
