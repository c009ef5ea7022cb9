use Rattle.std.proofs.Common.{◌<◌, length, rules}
use Rattle.primitive_reader.proofs.Spelling.{no_numbers}
use Rattle.primitive_reader.proofs.arcs.count_arcs.Goals as goal

pub returns-in_default-clause-none : goal.returns-in_default-clause-none
returns-in_default-clause-none c =
    let some : 0 < length c.loop-rest.rest.now = search rules in
    no_numbers c.loop-rest.count c.loop-rest.small c.args.octets.now c.loop-rest.rest.now c.loop-rest.invariant.0 some c.in_default.ensures.none
