use Rattle.range_ends.specs.proving.Signs.{AreSigned}
use Rattle.range_ends.proofs.posting.add_posts.Given as goal

abbrev pub invariant-loop-step : goal.invariant-loop-step
invariant-loop-step l = AreSigned l.linked.program l.target l.signs
