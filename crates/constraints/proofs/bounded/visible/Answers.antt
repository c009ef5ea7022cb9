use Rattle.type_table.specs.Seen.{kind_of}
use Rattle.asn_base.specs.Seen.{bounds_of}
use Rattle.constraints.proofs.Bounding.{visible_is}
use Rattle.constraints.proofs.bounded.visible.Goals as goal

pub seen-requires : goal.seen-requires
seen-requires c = (c.in-Some.ensures (kind_of c.shape-shape.result.now) c.shape-shape.ensures).some.numbers

pub returns-in-Some : goal.returns-in-Some
returns-in-Some c = λ k u.
    visible_is c.args.bounded.now.program k c.args.ty c.in-Some.limit.now (bounds_of c.seen.result) (c.in-Some.ensures k u)
    c.seen.ensures.least c.seen.ensures.greatest c.seen.ensures.extensible
