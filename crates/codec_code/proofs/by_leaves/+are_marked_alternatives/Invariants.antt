use Rattle.std.proofs.Common.{length}
use Rattle.codec_code.proofs.by_leaves.+are_marked_alternatives.Given as goal

abbrev pub decreases-are_marked_alternatives : goal.decreases-are_marked_alternatives
decreases-are_marked_alternatives l = length l.alternatives.now
