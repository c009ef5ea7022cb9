use Rattle.primitive_writer.proofs.buffer.+push_high_septets.Given as goal

abbrev pub decreases-push_high_septets : goal.decreases-push_high_septets
decreases-push_high_septets l = l.number
