use Rattle.std.proofs.Common.{drop}
use Rattle.std.specs.Prelude.{◌↔◌, IsTrue}
use Rattle.std.specs.List.{AllByRecursion}
use Rattle.asn_base.specs.Schemas.{is_character}
use Rattle.asn_base.proofs.numbers.are_characters.Given as goal

abbrev pub invariant-loop-i : goal.invariant-loop-i
invariant-loop-i l = AllByRecursion (λ c. IsTrue (is_character l.kind c)) (l.codes) ↔ AllByRecursion (λ c. IsTrue (is_character l.kind c)) (drop l.i (l.codes))
