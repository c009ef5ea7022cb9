use Rattle.std.proofs.Common.{◌≡◌, length}
use Rattle.resolve.specs.proving.Ordered.{AreIndexes}
use Rattle.resolve.proofs.name_index.indexes_of.Given as goal

abbrev pub invariant-loop-written : goal.invariant-loop-written
invariant-loop-written l = (length l.all.items ≡ l.written-index) × AreIndexes l.types l.all.items
