use Rattle.std.proofs.Common.{subst}
use Rattle.type_table.specs.Seen.{kind_of}
use Rattle.constraints.specs.proving.Columns.{AreAllowed}
use Rattle.constraints.proofs.Bounding.{constraint_is}
use Rattle.constraints.proofs.Trails.{kind_once}
use Rattle.constraints.proofs.kept.constraint.Goals as goal

pub seen-requires : goal.seen-requires
seen-requires c = (c.in-Some.ensures (kind_of c.shape.result.now) c.shape.ensures).some.numbers

pub returns-in-Ok : goal.returns-in-Ok
returns-in-Ok c = λ k u.
    let one =
    kind_once c.args.bounded.now.program.types c.args.ty.index (kind_of c.shape.result.now) k c.shape.ensures u in
    let allowed = subst (λ j. AreAllowed j c.in-Some.limit.now c.in-Ok.allowed) one c.in-Ok.ensures in
    constraint_is c.args.bounded.now.program k c.args.ty.index c.in-Some.limit.now c.in-Ok.allowed c.seen.result
    c.bounds.ensures.numbers c.bounds.ensures.sizes (c.in-Some.ensures k u) allowed c.seen.ensures.least
    c.seen.ensures.greatest c.seen.ensures.extensible
