use Rattle.std.proofs.Common.{◌≡◌, ◌++◌, map, drop}
use Rattle.asn_base.specs.Seen.{alternative_of}
use Rattle.codec_code.specs.Routines.{calls}
use Rattle.codec_code.proofs.routine.push_calls.Given as goal

abbrev pub invariant-loop-i : goal.invariant-loop-i
invariant-loop-i l =
    l.out.items ++ calls (map alternative_of (drop l.i l.alternatives))
    ≡ l.fn.out.items ++ calls (map alternative_of l.alternatives)
