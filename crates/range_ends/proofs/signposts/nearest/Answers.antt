use Rattle.type_table.specs.Seen.{kind_of}
use Rattle.range_ends.specs.proving.Steps.{next}
use Rattle.range_ends.proofs.Posts.{arrives_here}
use Rattle.range_ends.proofs.signposts.nearest.Goals as goal

pub returns-in-None : goal.returns-in-None
returns-in-None c = λ p os r a. arrives_here (next p (kind_of c.args.shape.now) os) c.args.start

pub returns-in-Some : goal.returns-in-Some
returns-in-Some c = λ p os r a. c.in-Some.ensures p os r a
