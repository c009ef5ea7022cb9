use Rattle.std.proofs.Common.{◌≡◌, ◌++◌, drop, map}
use Rattle.asn_base.specs.Schemas.{components}
use Rattle.asn_base.specs.Depths.{rows_of}
use Rattle.asn_base.specs.Seen.{types_of}
use Rattle.asn_base.specs.proving.Reaching.{default_types}
use Rattle.asn_base.proofs.graph.default_rows.Given as goal

abbrev pub invariant-loop-i : goal.invariant-loop-i
invariant-loop-i l = rows_of l.rows.items ++ map (λ r. default_types (components r.kind)) (drop l.i (types_of l.types)) ≡ map (λ r. default_types (components r.kind)) (types_of l.types)
