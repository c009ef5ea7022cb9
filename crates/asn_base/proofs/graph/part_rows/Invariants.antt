use Rattle.std.proofs.Common.{◌≡◌, ◌++◌, drop, map}
use Rattle.asn_base.specs.Schemas.{types_in}
use Rattle.asn_base.specs.Depths.{rows_of}
use Rattle.asn_base.specs.Seen.{types_of}
use Rattle.asn_base.proofs.graph.part_rows.Given as goal

abbrev pub invariant-loop-i : goal.invariant-loop-i
invariant-loop-i l = rows_of l.rows.items ++ map (λ r. types_in r.kind) (drop l.i (types_of l.types)) ≡ map (λ r. types_in r.kind) (types_of l.types)
