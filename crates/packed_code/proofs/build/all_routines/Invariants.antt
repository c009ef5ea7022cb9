use Rattle.std.proofs.Common.{◌≡◌, ◌++◌, length, drop}
use Rattle.std.specs.Prelude.{flat_map}
use Rattle.asn_base.specs.Seen.{types_of}
use Rattle.packed_code.specs.Routines.{routine_of, table_of, starts_from, starts_of}
use Rattle.packed_code.proofs.build.all_routines.Given as goal

abbrev pub invariant-loop-i : goal.invariant-loop-i
invariant-loop-i l =
    (l.steps.items ++ flat_map (λ r. routine_of (types_of l.types) r.kind) (types_of (drop l.i l.types)) ≡ table_of (types_of l.types))
    × (l.starts.items ++ starts_from (types_of l.types) (length l.steps.items) (types_of (drop l.i l.types))
    ≡ starts_of (types_of l.types))
