use Rattle.std.proofs.Common.{◌≡◌, ◌-◌, List, ◌++◌}
use Rattle.encodings.specs.Account.{Rows}
use Rattle.octet_account.specs.Flat.{FlatRow, count, member_rows}
use Rattle.octet_account.specs.Seen.{flat}
use Rattle.account_checker.proofs.Skipping.{SizesLeft}
use Rattle.account_checker.proofs.skipped.size_at.Given as goal

abbrev pub invariant-loop-i : goal.invariant-loop-i
invariant-loop-i l = (rs : Rows) (rest : List FlatRow) → flat l.fn.rows ≡ member_rows rs ++ rest → count rs ≡ l.members → SizesLeft rs (flat l.left) rest (l.members - l.i) l.number l.wanted
