use Rattle.std.proofs.Common.{length}
use Rattle.codec_code.proofs.by_leaves.+are_marked_components.Given as goal

abbrev pub decreases-are_marked_components : goal.decreases-are_marked_components
decreases-are_marked_components l = length l.components.now
