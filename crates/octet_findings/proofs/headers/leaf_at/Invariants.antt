use Rattle.std.proofs.Common.{◌≤◌}
use Rattle.octet_findings.proofs.Leaves.{AreSame}
use Rattle.octet_findings.proofs.headers.leaf_at.Given as goal

abbrev pub invariant-loop : goal.invariant-loop
invariant-loop l = record { same : AreSame l.octets l.at l.start; far : l.counter ≤ l.start }
