use Rattle.std.proofs.Common.{arith}
use Rattle.octets.proofs.Lengths.{header_length}
use Rattle.octets.proofs.header.header_len.Goals as goal

pub returns-clause-shortest : goal.returns-clause-shortest
returns-clause-shortest c = λ form. omega (arith, header_length c.args.tag form c.args.contents, c.identifier_len.ensures.count form, c.size_len.ensures.count)

pub returns-clause-least : goal.returns-clause-least
returns-clause-least c = λ r form h is.
    let fewest = c.header_laws.ensures.least r c.args.tag form form c.args.contents c.args.contents h (omega arith) is in
    omega (arith, header_length c.args.tag form c.args.contents, c.identifier_len.ensures.count form, c.size_len.ensures.count, fewest)
