use Rattle.std.proofs.Common.{[]}
use Rattle.front_end.proofs.law.one_value.Goals as goal

pub returns : goal.returns
returns c = λ p M i n v w k a b. c.one_value.ensures p [] M i n v w k.read.apart k.read.sound.lists a.is_so b.is_so
