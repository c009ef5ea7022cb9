use Rattle.std.proofs.Common.{◌≡◌, subst}
use Rattle.asn_base.specs.Seen.{kind_of}
use Rattle.octet_findings.specs.Contents.{Says, contents_words}
use Rattle.octet_findings.proofs.Found.{contents_found}
use Rattle.octet_findings.proofs.refused.of_bad_contents.Goals as goal

pub returns-in_ok-of_contents-in-Some : goal.returns-in_ok-of_contents-in-Some
returns-in_ok-of_contents-in-Some c e =
    let k = kind_of c.args.resolved.now.core.value in
    let at = c.in-Some.contents.at in
    let x = c.in-Some.contents.octets.now in
    let o = c.in_ok-of_contents-in-Some.field-0 in
    let q : kind_of c.deref-in-Some.result.now ≡ kind_of c.args.resolved.now.core.value = cc c.deref-in-Some.ensures in
    contents_found k c.args.octets.now c.args.at at c.in-Some.contents.tag x o
    c.in-Some.ensures.some c.in-Some.ensures.at
    (subst (λ y. Says (contents_words y at x) o) q c.in_ok-of_contents-in-Some.ensures)
