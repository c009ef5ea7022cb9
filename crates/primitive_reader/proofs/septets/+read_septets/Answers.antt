use Rattle.std.proofs.Common.{rules, ◌<◌}
use Rattle.primitive_reader.proofs.Spelling.{one_last, one_great}
use Rattle.primitive_reader.proofs.septets.+read_septets.Goals as goal

pub returns-then-octet-lt128-clause-some : goal.returns-then-octet-lt128-clause-some
returns-then-octet-lt128-clause-some t c = one_last c.args.high c.in-Some.octet.now c.args.octets.now c.in-Some.following.now c.in-Some.ensures.cases.0 c.if-octet-lt128.true

pub returns-in-Some-after_septets-clause-some : goal.returns-in-Some-after_septets-clause-some
returns-in-Some-after_septets-clause-some t c =
    let small : c.in-Some.octet.now < 256 = search rules in
    one_great c.args.high c.in-Some.octet.now c.args.octets.now c.in-Some.following.now c.in-Some-after_septets.rest.now c.in-Some.ensures.cases.0 c.if-octet-lt128.false small c.if-worth-lt-GREAT.false c.in-Some-after_septets.ensures.some
