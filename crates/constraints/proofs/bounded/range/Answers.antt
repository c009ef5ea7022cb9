use Rattle.std.proofs.Common.{sym, ◌∙◌}
use Rattle.type_table.specs.Seen.{kind_of}
use Rattle.constraints.specs.Constraints.{is_integer}
use Rattle.constraints.proofs.Bounding.{has_not, seen_is}
use Rattle.constraints.proofs.bounded.range.Goals as goal

pub returns-then-is_integer : goal.returns-then-is_integer
returns-then-is_integer c =
    seen_is c.args.bounded.now.program c.args.ty.index is_integer (kind_of c.shape.result.now) c.visible.result c.shape.ensures
    (sym c.is_integer.ensures ∙ c.if-is_integer.true) c.visible.ensures

pub returns-else-is_integer : goal.returns-else-is_integer
returns-else-is_integer c =
    has_not c.args.bounded.now.program.types c.args.ty.index is_integer (kind_of c.shape.result.now) c.shape.ensures
    (sym c.is_integer.ensures ∙ c.if-is_integer.false)
