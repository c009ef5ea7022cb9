use Rattle.std.proofs.Common.{arith}
use Rattle.primitive_reader.proofs.Lists.{is_relative, relative_none, relative_empty, relative_others, relative_many}
use Rattle.primitive_reader.proofs.arcs.judge_relative_oid.Goals as goal

pub returns-in_default-clause-err : goal.returns-in_default-clause-err
returns-in_default-clause-err c = relative_none c.args.octets.now c.in_default.ensures.none

pub returns-then-count-eq0-clause-err : goal.returns-then-count-eq0-clause-err
returns-then-count-eq0-clause-err c = relative_empty c.in-Some.count c.in-Some.small c.args.octets.now c.in-Some.ensures.some c.if-count-eq0.true

pub returns-then-not-small-clause-err : goal.returns-then-not-small-clause-err
returns-then-not-small-clause-err c = relative_others c.in-Some.count c.in-Some.small c.args.octets.now c.in-Some.ensures.some (omega (arith, c.if-count-eq0.false)) c.if-not-small.true

pub returns-then-count-gt-MAX_ARCS-clause-err : goal.returns-then-count-gt-MAX_ARCS-clause-err
returns-then-count-gt-MAX_ARCS-clause-err c = relative_many c.in-Some.count c.in-Some.small c.args.octets.now c.in-Some.ensures.some (omega (arith, c.if-count-eq0.false)) c.if-count-gt-MAX_ARCS.true

pub returns-clause-ok : goal.returns-clause-ok
returns-clause-ok c = is_relative c.in-Some.count c.in-Some.small c.args.octets.now c.in-Some.ensures.some (omega (arith, c.if-count-eq0.false)) c.if-not-small.false c.if-count-gt-MAX_ARCS.false
