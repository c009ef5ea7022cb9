use Rattle.std.proofs.Common.{drop, map}
use Rattle.std.specs.Prelude.{◌↔◌}
use Rattle.asn_base.specs.Seen.{item_of}
use Rattle.asn_base.proofs.Ascending.{Adjacent, Before}
use Rattle.asn_base.proofs.numbers.do_numbers_ascend.Given as goal

abbrev pub invariant-loop-i : goal.invariant-loop-i
invariant-loop-i l = Adjacent Before (map item_of l.items) ↔ Adjacent Before (drop l.i (map item_of l.items))
