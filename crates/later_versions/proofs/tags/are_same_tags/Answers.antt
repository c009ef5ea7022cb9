use Rattle.std.proofs.Common.{arith}
use Rattle.later_versions.proofs.Fronts.{yes}
use Rattle.later_versions.proofs.Marks.{got_all}
use Rattle.later_versions.proofs.tags.are_same_tags.Goals as goal

pub returns : goal.returns
returns c = yes (got_all c.args.tags.now c.args.others.now c.loop-i.i (omega arith) (omega arith) c.loop-i.invariant)
