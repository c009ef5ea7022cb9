use Rattle.std.proofs.Common.{◌≡◌, ◌++◌, drop, map}
use Rattle.asn_base.specs.Seen.{alternative_of}
use Rattle.asn_base.proofs.graph.add_alternatives.Given as goal

abbrev pub invariant-loop-i : goal.invariant-loop-i
invariant-loop-i l = l.row.items ++ drop l.i (map (λ d. d.type) (map alternative_of l.alternatives)) ≡ l.fn.row.items ++ map (λ d. d.type) (map alternative_of l.alternatives)
