use Rattle.std.proofs.Common.{List}
use Rattle.octet_account.specs.Flat.{FlatRow}
use Rattle.account_text.specs.proving.Stack.{AgreesWithStack}
use Rattle.account_text.proofs.stack.next.Given as goal

abbrev pub invariant-loop-top : goal.invariant-loop-top
invariant-loop-top l = (all rs : List FlatRow) → AgreesWithStack all l.fn.stack.items rs → AgreesWithStack all l.stack.items rs

abbrev pub decreases-loop-top : goal.decreases-loop-top
decreases-loop-top l = goal.left-loop-top l
