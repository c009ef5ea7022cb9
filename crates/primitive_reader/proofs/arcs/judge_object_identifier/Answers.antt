use Rattle.std.proofs.Common.{refl}
use Rattle.primitive_reader.proofs.Lists.{is_oid, oid_great, oid_others, oid_many, oid_without_first, oid_without_others}
use Rattle.primitive_reader.proofs.Spelling.{never_true}
use Rattle.primitive_reader.proofs.arcs.judge_object_identifier.Goals as goal

pub returns-in_default-clause-err : goal.returns-in_default-clause-err
returns-in_default-clause-err c = oid_without_first c.args.octets.now c.in_default.ensures.none

pub returns-in_default-count_arcs-clause-err : goal.returns-in_default-count_arcs-clause-err
returns-in_default-count_arcs-clause-err c = oid_without_others c.in-Some.first c.args.octets.now c.in-Some.others.now c.in-Some.ensures.some c.in_default-count_arcs.ensures.none

pub returns-then-not-is_first-clause-err : goal.returns-then-not-is_first-clause-err
returns-then-not-is_first-clause-err c =
    let f = c.in-Some.ensures.some in
    oid_great c.in-Some.first c.in-Some-count_arcs.count c.in-Some-count_arcs.small c.in-Some.others.now c.args.octets.now f c.in-Some-count_arcs.ensures.some (λ l. never_true ((c.if-not-is_first.ensures f.number f.is_arc).1 l))

pub returns-then-not-small-clause-err : goal.returns-then-not-small-clause-err
returns-then-not-small-clause-err c = oid_others c.in-Some.first c.in-Some-count_arcs.count c.in-Some-count_arcs.small c.in-Some.others.now c.args.octets.now c.in-Some.ensures.some c.in-Some-count_arcs.ensures.some c.if-not-small.true

pub returns-then-count-gt62-clause-err : goal.returns-then-count-gt62-clause-err
returns-then-count-gt62-clause-err c = oid_many c.in-Some.first c.in-Some-count_arcs.count c.in-Some-count_arcs.small c.in-Some.others.now c.args.octets.now c.in-Some.ensures.some c.in-Some-count_arcs.ensures.some c.if-count-gt62.true

pub returns-clause-ok : goal.returns-clause-ok
returns-clause-ok c =
    let f = c.in-Some.ensures.some in
    is_oid c.in-Some.first c.in-Some-count_arcs.count c.in-Some-count_arcs.small c.in-Some.others.now c.args.octets.now f c.in-Some-count_arcs.ensures.some ((c.if-not-is_first.ensures f.number f.is_arc).0 refl) c.if-not-small.false c.if-count-gt62.false
