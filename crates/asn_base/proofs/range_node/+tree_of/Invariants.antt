use Rattle.std.proofs.Common.{length}
use Rattle.asn_base.proofs.range_node.+tree_of.Given as goal

abbrev pub decreases-tree_of : goal.decreases-tree_of
decreases-tree_of l = length l.ranges.now
