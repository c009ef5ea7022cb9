use Rattle.std.proofs.Common.{◌≡◌, drop}
use Rattle.packed_reader.specs.Steps.{added_call}
use Rattle.packed_reader.proofs.call.numbered.Given as goal

abbrev pub invariant-loop-i : goal.invariant-loop-i
invariant-loop-i l = added_call l.number (drop l.i l.calls) l.i ≡ added_call l.number l.calls 0
