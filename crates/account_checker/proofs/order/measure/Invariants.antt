use Rattle.std.proofs.Common.{◌≡◌, ◌-◌, ◌*◌, ◌≤◌, ◌++◌, List}
use Rattle.std.specs.Prelude.{IsTrue}
use Rattle.encodings.specs.Account.{Rows}
use Rattle.octet_account.specs.Flat.{FlatRow, count, member_rows}
use Rattle.octet_account.specs.Seen.{flat}
use Rattle.account_checker.proofs.Ends.{CountsLeft, EndsLeft}
use Rattle.account_checker.proofs.order.measure.Given as goal

abbrev pub invariant-loop-i : goal.invariant-loop-i
invariant-loop-i l =
    (l.octets ≤ 18446744073709551615 * l.i) × (l.written ≤ l.i)
    × ((rs : Rows) (rest : List FlatRow)
    → flat l.fn.rows ≡ member_rows rs ++ rest
    → count rs ≡ l.members
    → CountsLeft rs (flat l.left) rest (l.members - l.i) l.octets l.written
    × (IsTrue l.known → EndsLeft l.set.places.items l.set.ends.items rs (flat l.left) rest (l.members - l.i) l.octets l.written))
