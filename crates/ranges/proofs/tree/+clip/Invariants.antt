use Rattle.std.proofs.Common.{length}
use Rattle.asn_base.specs.Trees.{ranges_in}
use Rattle.ranges.proofs.tree.+clip.Given as goal

abbrev pub decreases-clip : goal.decreases-clip
decreases-clip l = length (ranges_in l.link.now)
