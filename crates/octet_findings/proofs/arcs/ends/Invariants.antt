use Rattle.std.proofs.Common.{◌≡◌, drop, true}
use Rattle.octet_findings.specs.Contents.{ends_after}
use Rattle.octet_findings.proofs.arcs.ends.Given as goal

abbrev pub invariant-loop-place : goal.invariant-loop-place
invariant-loop-place l = ends_after true l.octets ≡ ends_after l.ends (drop l.place l.octets)
