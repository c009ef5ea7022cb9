use Rattle.std.proofs.Common.{◌≡◌, ◌++◌, map, drop}
use Rattle.asn_base.specs.Seen.{alternative_of}
use Rattle.packed_code.specs.Routines.{more_calls}
use Rattle.packed_code.proofs.choice.push_more.Given as goal

abbrev pub invariant-loop-i : goal.invariant-loop-i
invariant-loop-i l =
    l.out.items ++ more_calls l.i (map alternative_of (drop l.i l.additions))
    ≡ l.fn.out.items ++ more_calls 0 (map alternative_of l.additions)
