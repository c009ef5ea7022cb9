use Rattle.std.proofs.Common.{arith}
use Rattle.primitive_reader.proofs.Spelling.{front_of, front_shorter, none_first, zero_first, no_front}
use Rattle.primitive_reader.proofs.septets.read_arc.Goals as goal

pub returns-then-octets-eq0-clause-none : goal.returns-then-octets-eq0-clause-none
returns-then-octets-eq0-clause-none c = none_first c.args.octets.now c.if-octets-eq0.true

pub bounds-octets-0 : goal.bounds-octets-0
bounds-octets-0 c = omega (arith, c.if-octets-eq0.false)

pub returns-then-first-clause-none : goal.returns-then-first-clause-none
returns-then-first-clause-none c = zero_first c.args.octets.now c.if-first.true

pub read_septets-requires : goal.read_septets-requires
read_septets-requires c = omega arith

pub returns-in-Some-clause-some : goal.returns-in-Some-clause-some
returns-in-Some-clause-some c = front_of c.in-Some.number c.args.octets.now c.in-Some.rest.now c.if-first.false c.in-Some.ensures.some

pub returns-in-Some-clause-shorter : goal.returns-in-Some-clause-shorter
returns-in-Some-clause-shorter c = front_shorter c.in-Some.number c.args.octets.now c.in-Some.rest.now (front_of c.in-Some.number c.args.octets.now c.in-Some.rest.now c.if-first.false c.in-Some.ensures.some)

pub returns-in-None-clause-none : goal.returns-in-None-clause-none
returns-in-None-clause-none c = no_front c.args.octets.now c.in-None.ensures.none
