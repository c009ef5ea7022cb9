use Rattle.std.proofs.Common.{◌≡◌, drop, not}
use Rattle.std.specs.List.{position_from}
use Rattle.asn_base.specs.Schemas.{is_character}
use Rattle.octet_findings.proofs.contents.no_character.Given as goal

abbrev pub invariant-loop-place : goal.invariant-loop-place
invariant-loop-place l = position_from (λ c. not (is_character l.kind c)) 0 l.octets
    ≡ position_from (λ c. not (is_character l.kind c)) l.place (drop l.place l.octets)
