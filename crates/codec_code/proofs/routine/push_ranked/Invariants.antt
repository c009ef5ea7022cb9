use Rattle.std.proofs.Common.{◌≡◌, ◌++◌, map, drop}
use Rattle.asn_base.specs.Seen.{component_of, types_of}
use Rattle.codec_code.specs.Routines.{ranked_from}
use Rattle.codec_code.proofs.routine.push_ranked.Given as goal

abbrev pub invariant-loop-i : goal.invariant-loop-i
invariant-loop-i l =
    l.out.items ++ ranked_from (types_of l.types) (map component_of l.components) l.i (map component_of (drop l.i l.components))
    ≡ l.fn.out.items ++ ranked_from (types_of l.types) (map component_of l.components) 0 (map component_of l.components)
