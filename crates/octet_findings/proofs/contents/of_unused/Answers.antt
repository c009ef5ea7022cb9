use Rattle.std.proofs.Common.{codes, refl, string_bytes}
use Rattle.octet_findings.specs.Findings.{counted}
use Rattle.octet_findings.proofs.Found.{said_so}
use Rattle.octet_findings.proofs.contents.of_unused.Goals as goal

pub returns : goal.returns
returns c =
    said_so (counted c.args.unused (codes "unused bit")) c.args.expected.now
    (string_bytes c.in_ok-words.words) c.args.expected.now
    c.in_ok-found.field-0 c.in_ok-words.ensures refl c.in_ok-found.ensures
