use Rattle.octet_findings.proofs.Found.{characters_found}
use Rattle.octet_findings.proofs.contents.of_characters.Goals as goal

pub returns-in_ok-of_octet-in-Some : goal.returns-in_ok-of_octet-in-Some
returns-in_ok-of_octet-in-Some c =
    characters_found c.args.kind c.args.contents.at c.args.contents.octets.now c.in-Some.place
    c.characters_of.result.now c.in_ok-of_octet-in-Some.field-0
    c.in-Some.ensures.first c.in-Some.ensures.bound c.characters_of.ensures c.in_ok-of_octet-in-Some.ensures
