use Rattle.std.proofs.Common.{◌≤◌}
use Rattle.octet_findings.proofs.Depths.{HasEntered}
use Rattle.octet_findings.proofs.headers.header_with.Given as goal

abbrev pub invariant-loop : goal.invariant-loop
invariant-loop l = record {
  entered : HasEntered l.octets l.at l.levels l.start;
  few : l.levels ≤ l.counter;
  far : l.counter ≤ l.start;
}
