use Rattle.std.proofs.Common.{◌≡◌, Ok, Err, sym, ap, ◌∙◌, subst}
use Rattle.octet_account.specs.Flat.{AreRows}
use Rattle.octet_account.specs.Seen.{flat}
use Rattle.account_text.specs.declared.account_fault.AccountFault.TheVariants.{NotAccount}
use Rattle.account_text.proofs.Small.{small}
use Rattle.account_text.proofs.Texts.{same_rows}
use Rattle.account_text.proofs.read.from_json.Goals as goal

pub returns-in-Err-clause-refused : goal.returns-in-Err-clause-refused
returns-in-Err-clause-refused c = λ e a h.
    let same : c.in-Err.fault ≡ NotAccount = cc (e) in
    c.in-Err.ensures.refused (ap Err same) h.rows (small h.are) h.read

pub returns-in-Ok-false-clause-refused : goal.returns-in-Ok-false-clause-refused
returns-in-Ok-false-clause-refused c = λ e a h.
    let read = c.in-Ok.ensures.read in
    let rows = same_rows c.args.text.now h.rows (flat c.in-Ok.rows.items) (small h.are) read.0 h.read read.1 in
    c.in-Ok-false.ensures.no (ap Ok c.in-Ok-false.field-0-test) a (subst (AreRows a) (rows ∙ ap flat (sym c.as_slice.ensures.value)) h.are)
