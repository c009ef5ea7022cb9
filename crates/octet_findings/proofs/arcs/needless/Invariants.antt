use Rattle.std.proofs.Common.{◌≡◌, drop, true}
use Rattle.octet_findings.specs.Contents.{needless_from}
use Rattle.octet_findings.proofs.arcs.needless.Given as goal

abbrev pub invariant-loop-place : goal.invariant-loop-place
invariant-loop-place l = needless_from true 0 l.octets ≡ needless_from l.begins l.place (drop l.place l.octets)
