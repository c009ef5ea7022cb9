use Rattle.std.proofs.Common.{◌≡◌, ◌++◌, [], take}
use Rattle.octet_account.specs.Seen.{flat}
use Rattle.account_text.specs.proving.Tokens.{rows_first}
use Rattle.account_text.proofs.write.rows.Given as goal

abbrev pub invariant-loop-row : goal.invariant-loop-row
invariant-loop-row l = record {
  before : l.out.before ≡ l.fn.out.before;
  done : l.out.tokens ≡ l.fn.out.tokens ++ rows_first (flat (take l.row-index l.rows)) [];
}
