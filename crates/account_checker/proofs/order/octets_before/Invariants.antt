use Rattle.std.proofs.Common.{◌≡◌, ◌≤◌, ◌*◌, List, ◌++◌, take}
use Rattle.std.specs.List.{sum}
use Rattle.encodings.specs.Account.{Rows}
use Rattle.octet_account.specs.Flat.{FlatRow, count, member_rows}
use Rattle.octet_account.specs.Seen.{flat}
use Rattle.account_checker.specs.Follows.{sizes, by_place}
use Rattle.account_checker.proofs.order.octets_before.Given as goal

abbrev pub invariant-loop-j : goal.invariant-loop-j
invariant-loop-j l =
    (l.octets ≤ 18446744073709551615 * l.j) × (l.j ≤ l.place)
    × ((rs : Rows) (rest : List FlatRow) → flat l.rows ≡ member_rows rs ++ rest → count rs ≡ l.members → l.octets ≡ sum (take l.j (by_place (sizes rs) l.inverse)))
