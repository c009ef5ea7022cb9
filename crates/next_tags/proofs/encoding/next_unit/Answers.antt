use Rattle.std.proofs.Common.{length}
use Rattle.octet_answers.specs.proving.Fronts.{front_of}
use Rattle.next_tags.proofs.encoding.next_unit.Goals as goal

pub returns-in-Err-clause-none : goal.returns-in-Err-clause-none
returns-in-Err-clause-none c = λ g d k x r u. c.lemma_one_front.ensures.either c.in-Err.fault g d (length x) k c.args.octets.now c.in-Err.ensures.err (front_of u)
