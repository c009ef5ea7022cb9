use Rattle.octet_findings.proofs.Depths.{depth_nowhere, depth_there}
use Rattle.octet_findings.proofs.headers.depth.Goals as goal

pub returns-in-Some : goal.returns-in-Some
returns-in-Some c = depth_there c.in-Some.ensures.some c.if-header-at.true

pub returns-in_default : goal.returns-in_default
returns-in_default c =
    depth_nowhere c.lemma_one_front.ensures.header c.in-Some.ensures.some c.if-header-at.false
