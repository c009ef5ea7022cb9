use Rattle.std.proofs.Common.{take}
use Rattle.std.specs.Prelude.{IsTrue}
use Rattle.std.specs.List.{AllByRecursion}
use Rattle.asn_base.specs.Schemas.{is_character}
use Rattle.value_notations.proofs.leaf.are_characters.Given as goal

abbrev pub invariant-loop-octet : goal.invariant-loop-octet
invariant-loop-octet l = AllByRecursion (λ c. IsTrue (is_character l.fn.kind c)) (take l.octet-index l.octets)
