use Rattle.std.proofs.Common.{◌≡◌, drop}
use Rattle.packed_reader.specs.Steps.{ranked_call}
use Rattle.packed_reader.proofs.call.ranked.Given as goal

abbrev pub invariant-loop-i : goal.invariant-loop-i
invariant-loop-i l = ranked_call l.rank (drop l.i l.calls) l.i ≡ ranked_call l.rank l.calls 0
