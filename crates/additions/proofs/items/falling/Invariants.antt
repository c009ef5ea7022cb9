use Rattle.additions.proofs.Rising.{Rises}
use Rattle.additions.proofs.items.falling.Given as goal

abbrev pub invariant-loop-at : goal.invariant-loop-at
invariant-loop-at l = Rises l.numbers l.from l.at
