use Rattle.type_table.specs.Seen.{kind_of}
use Rattle.range_ends.proofs.finder.reached_after.Goals as goal

pub returns-else-by_signs : goal.returns-else-by_signs
returns-else-by_signs c =
    c.noted.ensures c.args.course.now.linked.now.program c.args.course.now.target.now c.requires.right
    (kind_of c.args.course.now.shape.now) c.requires.kind
