use Rattle.std.proofs.Common.{◌≡◌, ◌≤◌, ◌+◌, ◌*◌, List, ◌++◌, drop}
use Rattle.octet_account.specs.Flat.{FlatRow}
use Rattle.octet_account.specs.Seen.{flat}
use Rattle.account_checker.specs.Parts.{Member, rows_in}
use Rattle.account_checker.proofs.Skipping.{Pending}
use Rattle.account_checker.proofs.skipped.after_member.Given as goal

abbrev pub invariant-loop-i : goal.invariant-loop-i
invariant-loop-i l =
    (l.left ≤ 1 + 4294967295 * l.i)
    × ((m : Member) (rest : List FlatRow) → flat l.rows ≡ rows_in m ++ rest → Pending (drop l.i (flat l.rows)) rest l.left)
