use Rattle.std.proofs.Common.{◌≡◌}
use Rattle.octet_account.specs.Seen.{flat}
use Rattle.octet_account.proofs.ends.with_ends.Given as goal

abbrev pub invariant-loop-done : goal.invariant-loop-done
invariant-loop-done l = flat l.rows.items ≡ flat l.fn.rows.items
