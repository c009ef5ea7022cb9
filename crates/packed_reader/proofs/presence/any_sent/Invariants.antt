use Rattle.std.proofs.Common.{◌≡◌, drop}
use Rattle.packed_reader.specs.proving.Running.{any_sent}
use Rattle.packed_reader.proofs.presence.any_sent.Given as goal

abbrev pub invariant-loop-i : goal.invariant-loop-i
invariant-loop-i l = any_sent (drop l.i l.sent) ≡ any_sent l.sent
