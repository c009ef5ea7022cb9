use Rattle.std.proofs.Common.{ap, sym}
use Rattle.codec_code.specs.Routines.{routine_at}
use Rattle.ber_source.specs.Shapes.{shape_in}
use Rattle.ber_source.proofs.Summary.{row_in}
use Rattle.ber_source.proofs.shape.shape_at.Goals as goal

pub returns-in-Leaf : goal.returns-in-Leaf
returns-in-Leaf c = sym (ap shape_in c.in-Leaf.ensures.0)

pub returns-in-Components : goal.returns-in-Components
returns-in-Components c = row_in (routine_at c.args.code.now c.args.id.index) _ _ c.in-Components.count c.in-Components.ensures.1 c.in-Components.ensures.2

pub returns-in-Elements : goal.returns-in-Elements
returns-in-Elements c = sym (ap shape_in c.in-Elements.ensures.2)
