use Rattle.std.proofs.Common.{take}
use Rattle.type_table.specs.Lists.{AreWithinLimit}
use Rattle.type_table.specs.proving.Sets.{IsSetOf}
use Rattle.type_table.proofs.items.set_of.Given as goal

abbrev pub invariant-loop-i : goal.invariant-loop-i
invariant-loop-i l = record {
  same : IsSetOf l.set.keys (take l.i l.numbers);
  within : AreWithinLimit l.set.keys;
}
