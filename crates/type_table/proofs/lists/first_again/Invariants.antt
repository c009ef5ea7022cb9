use Rattle.type_table.proofs.Fronts.{KeptIn}
use Rattle.type_table.proofs.lists.first_again.Given as goal

abbrev pub invariant-loop-i : goal.invariant-loop-i
invariant-loop-i l = KeptIn l.numbers l.before.keys l.i
