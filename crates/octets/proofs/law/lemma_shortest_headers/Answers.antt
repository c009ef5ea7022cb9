use Rattle.std.proofs.Common.{arith, sym, ◌∙◌}
use Rattle.encodings.specs.Rules.{Basic}
use Rattle.octets.proofs.law.lemma_shortest_headers.Goals as goal

pub returns-clause-fewest : goal.returns-clause-fewest
returns-clause-fewest c = λ t form n h header. c.header_laws.ensures.least Basic t form form n n h (omega arith) (record { header = header; fewest = tt })

pub returns-clause-one : goal.returns-clause-one
returns-clause-one c = λ t form n h g a b. c.header_laws.ensures.only t form n h a ∙ sym (c.header_laws.ensures.only t form n g b)
