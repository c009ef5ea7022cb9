use Rattle.std.proofs.Common.{arith, ◌∙◌}
use Rattle.octet_findings.proofs.Found.{utf8_found, utf8_none}
use Rattle.octet_findings.proofs.contents.of_utf8.Goals as goal

pub returns-in_default : goal.returns-in_default
returns-in_default c =
    utf8_none c.args.contents.at c.args.contents.octets.now c.in_default.ensures.cases.1

pub returns : goal.returns
returns c =
    utf8_found c.args.contents.at c.args.contents.octets.now c.valid_up_to-place.result
    c.in_ok-of_octet.field-0
    (c.valid_up_to-place.ensures ∙ c.in-Err.ensures.valid_len) (omega arith) c.in_ok-of_octet.ensures
