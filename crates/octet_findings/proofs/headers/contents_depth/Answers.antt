use Rattle.std.proofs.Common.{arith}
use Rattle.octet_findings.proofs.Depths.{contents_nowhere, contents_there}
use Rattle.octet_findings.proofs.headers.contents_depth.Goals as goal

pub returns-in-Some : goal.returns-in-Some
returns-in-Some c =
    let some = c.if-at-eq0.false in
    contents_there (omega (arith, some)) c.in-Some.ensures.some c.if-header-at.true

pub returns-in_default : goal.returns-in_default
returns-in_default c =
    let some = c.if-at-eq0.false in
    contents_nowhere c.lemma_one_front.ensures.header (omega (arith, some)) c.in-Some.ensures.some
    c.if-header-at.false
