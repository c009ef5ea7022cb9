use Rattle.std.proofs.Common.{arith}
use Rattle.range_ends.proofs.References.{listed_read}
use Rattle.range_ends.specs.proving.Signs.{IsOneOf}
use Rattle.range_ends.proofs.Posts.{if_same, refers_if}
use Rattle.range_ends.proofs.posting.post_after.Goals as goal

pub returns-in-Some-clause-there : goal.returns-in-Some-clause-there
returns-in-Some-clause-there c =
    if_same (IsOneOf c.args.signs.now) c.post_at.result c.with_room.result c.with_room.ensures.same c.post_at.ensures.there

pub returns-in-Some-clause-refers : goal.returns-in-Some-clause-refers
returns-in-Some-clause-refers c =
    let test = c.if-value-target.false in
    let l = listed_read c.args.target.now c.args.value _ _ (omega (arith, test)) c.in-Some.is in
    refers_if c.args.target.now c.args.value c.in-Some.next c.post_at.result c.with_room.result l c.with_room.ensures.same
    c.post_at.ensures.value
