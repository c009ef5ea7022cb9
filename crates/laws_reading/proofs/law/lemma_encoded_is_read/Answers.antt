use Rattle.std.proofs.Common.{arith}
use Rattle.encodings.specs.Rules.{Basic}
use Rattle.laws_reading.proofs.Completes.{completed, is_unit}
use Rattle.laws_reading.proofs.law.lemma_encoded_is_read.Goals as goal

pub returns-clause-read : goal.returns-clause-read
returns-clause-read c s t w k o rest budget d schema v l q m =
    let n = c.message_laws.ensures.nodes s Basic t.index k w o schema d in
    completed s schema c.lemma_one_answer.ensures.takes t w k o rest budget d v l q (omega arith)

pub returns-clause-unit : goal.returns-clause-unit
returns-clause-unit c s t k w o schema d = is_unit s schema t k w o d
