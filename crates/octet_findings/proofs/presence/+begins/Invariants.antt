use Rattle.octet_findings.proofs.presence.+begins.Given as goal

abbrev pub decreases-begins : goal.decreases-begins
decreases-begins l = l.nested
