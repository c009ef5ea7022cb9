use Rattle.asn_base.specs.proving.Reaching.{Marks}
use Rattle.asn_base.proofs.Reaching.{IsBelow}
use Rattle.asn_base.proofs.circle.mark_row.Given as goal

abbrev pub invariant-loop-i : goal.invariant-loop-i
invariant-loop-i l = Marks (λ j. IsBelow l.row l.i j) l.fn.marks l.marks l.fn.waiting.items l.waiting.items
