use Rattle.std.proofs.Common.{arith, refl}
use Rattle.primitive_reader.proofs.Shortest.{no_number, past_limit}
use Rattle.primitive_reader.proofs.Spelling.{never_true}
use Rattle.primitive_reader.proofs.Decoding.{number_within}
use Rattle.primitive_reader.proofs.number.read_number.Goals as goal

pub returns-then-not-is_shortest-clause-err : goal.returns-then-not-is_shortest-clause-err
returns-then-not-is_shortest-clause-err c = no_number c.args.octets.now (λ s. never_true (c.if-not-is_shortest.ensures.1 s))

pub returns-then-octets-gt-MOST-clause-err : goal.returns-then-octets-gt-MOST-clause-err
returns-then-octets-gt-MOST-clause-err c = past_limit c.args.octets.now c.are_octets.ensures (c.if-not-is_shortest.ensures.0 refl) (omega (arith, c.if-octets-gt-MOST.true))

pub number_of-requires-clause-short : goal.number_of-requires-clause-short
number_of-requires-clause-short c = c.if-not-is_shortest.ensures.0 refl

pub number_of-requires-clause-few : goal.number_of-requires-clause-few
number_of-requires-clause-few c = c.if-octets-gt-MOST.false

pub returns-clause-ok : goal.returns-clause-ok
returns-clause-ok c = number_within c.args.octets.now c.number_of.result c.number_of.ensures
