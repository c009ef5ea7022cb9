use Rattle.std.proofs.Common.{sym, ◌∙◌}
use Rattle.type_table.specs.Seen.{kind_of}
use Rattle.constraints.specs.Constraints.{has_visible_size}
use Rattle.constraints.proofs.Bounding.{has_not, seen_is}
use Rattle.constraints.proofs.bounded.size.Goals as goal

pub returns-then-has_visible_size : goal.returns-then-has_visible_size
returns-then-has_visible_size c =
    seen_is c.args.bounded.now.program c.args.ty.index has_visible_size (kind_of c.shape.result.now) c.visible.result c.shape.ensures
    (sym c.has_visible_size.ensures ∙ c.if-has_visible_size.true) c.visible.ensures

pub returns-else-has_visible_size : goal.returns-else-has_visible_size
returns-else-has_visible_size c =
    has_not c.args.bounded.now.program.types c.args.ty.index has_visible_size (kind_of c.shape.result.now) c.shape.ensures
    (sym c.has_visible_size.ensures ∙ c.if-has_visible_size.false)
