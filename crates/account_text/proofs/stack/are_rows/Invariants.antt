use Rattle.std.proofs.Common.{drop}
use Rattle.octet_account.specs.Seen.{flat}
use Rattle.account_text.specs.proving.Stack.{AgreesWithStack}
use Rattle.account_text.proofs.stack.are_rows.Given as goal

abbrev pub invariant-loop-row : goal.invariant-loop-row
invariant-loop-row l = AgreesWithStack (flat l.rows) l.stack.items (flat (drop l.row-index l.rows))
