use Rattle.std.proofs.Common.{◌≡◌, ◌++◌, map, drop}
use Rattle.asn_base.specs.Seen.{alternative_of, types_of}
use Rattle.packed_code.specs.Routines.{root_calls}
use Rattle.packed_code.proofs.choice.push_ranked.Given as goal

abbrev pub invariant-loop-i : goal.invariant-loop-i
invariant-loop-i l =
    l.out.items ++ root_calls (types_of l.types) l.extensible (map alternative_of l.root) (map alternative_of (drop l.i l.root))
    ≡ l.fn.out.items ++ root_calls (types_of l.types) l.extensible (map alternative_of l.root) (map alternative_of l.root)
