use Rattle.std.proofs.Common.{arith}
use Rattle.primitive_reader.proofs.Decoding.{no_boolean, long_boolean, read_false, read_true}
use Rattle.primitive_reader.proofs.leaf.as_boolean.Goals as goal

pub returns-in_default-clause-err : goal.returns-in_default-clause-err
returns-in_default-clause-err c = no_boolean c.args.contents.now c.in_default.ensures.cases

pub returns-then-following-gt0-clause-err : goal.returns-then-following-gt0-clause-err
returns-then-following-gt0-clause-err c = long_boolean c.args.contents.now c.in-Some.octet.now c.in-Some.following.now c.in-Some.ensures.cases.0 c.if-following-gt0.true

pub returns-then-octet-eq0-clause-ok : goal.returns-then-octet-eq0-clause-ok
returns-then-octet-eq0-clause-ok c = read_false c.args.contents.now c.in-Some.octet.now c.in-Some.following.now c.in-Some.ensures.cases.0 c.if-following-gt0.false c.if-octet-eq0.true

pub returns-else-octet-eq0-clause-ok : goal.returns-else-octet-eq0-clause-ok
returns-else-octet-eq0-clause-ok c = read_true c.args.contents.now c.in-Some.octet.now c.in-Some.following.now c.in-Some.ensures.cases.0 c.if-following-gt0.false (omega (arith, c.if-octet-eq0.false)) c.are_octets.ensures
