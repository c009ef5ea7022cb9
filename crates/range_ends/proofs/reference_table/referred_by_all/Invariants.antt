use Rattle.range_ends.proofs.References.{AreFirst}
use Rattle.range_ends.proofs.reference_table.referred_by_all.Given as goal

abbrev pub invariant-loop-number : goal.invariant-loop-number
invariant-loop-number l = AreFirst l.linked.program l.target.items l.number
