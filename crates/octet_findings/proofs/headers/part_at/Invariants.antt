use Rattle.octet_findings.proofs.Parts.{IsOnWay}
use Rattle.octet_findings.proofs.headers.part_at.Given as goal

abbrev pub invariant-loop-level : goal.invariant-loop-level
invariant-loop-level l = IsOnWay l.octets l.at l.tags l.level l.start
