use Rattle.std.proofs.Common.{length}
use Rattle.ber_source.proofs.shape.+shape_of.Given as goal

abbrev pub decreases-shape_of : goal.decreases-shape_of
decreases-shape_of l = length l.steps.now
