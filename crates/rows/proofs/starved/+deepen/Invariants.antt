use Rattle.rows.proofs.starved.+deepen.Given as goal

abbrev pub decreases-deepen : goal.decreases-deepen
decreases-deepen l = l.levels
