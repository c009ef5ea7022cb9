use Rattle.std.proofs.Common.{ap}
use Rattle.next_tags.specs.Firsts.{head_tag}
use Rattle.next_tags.proofs.first.first_tag.Goals as goal

pub returns-in-Leaf : goal.returns-in-Leaf
returns-in-Leaf c = ap head_tag c.in-Leaf.ensures.0

pub returns-in-Components : goal.returns-in-Components
returns-in-Components c = ap head_tag c.in-Components.ensures.1

pub returns-in-Elements : goal.returns-in-Elements
returns-in-Elements c = ap head_tag c.in-Elements.ensures.2
