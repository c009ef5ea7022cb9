use Rattle.std.proofs.Common.{sym, ap, ◌∙◌, ◌++◌}
use Rattle.octet_account.specs.Seen.{flat}
use Rattle.account_checker.specs.Parts.{rows_in, size_in}
use Rattle.account_checker.specs.Follows.{total_octets}
use Rattle.account_checker.proofs.Rows.{row_eq_any}
use Rattle.account_checker.proofs.RowLayout.{is_account}
use Rattle.account_checker.proofs.Skipping.{some_is}
use Rattle.account_checker.proofs.skipped.first_size.Goals as goal

pub returns-in_default-listed : goal.returns-in_default-listed
returns-in_default-listed c = λ m rest e.
    let f = row_eq_any c.args.rows.now c.in-Some.row.now c.in-Some.field-0-1.now (rows_in m ++ rest) c.in-Some.ensures.cases.0 e in
    let a = is_account m c.in-Some.row.now.listed (flat c.in-Some.field-0-1.now) rest f c.in_default-listed.not-Absent c.in_default-listed.not-Default in
    some_is c.total_octets.result (total_octets a.0) (c.total_octets.ensures.listed a.0 (flat c.in-Some.field-0-1.now) rest (f ∙ ap (λ w. rows_in w ++ rest) a.1)) ∙ ap size_in (sym a.1)
