use Rattle.std.proofs.Common.{◌≡◌, ◌∷◌, [], Err, sym, ap, ◌∙◌}
use Rattle.octet_account.specs.Seen.{flat}
use Rattle.json.specs.Token.{end_array, begin_array}
use Rattle.account_text.specs.declared.account_fault.AccountFault.TheVariants.{NotAccount}
use Rattle.account_text.specs.proving.Tokens.{rows_first}
use Rattle.account_text.proofs.Json.{to_tokens, from_tokens}
use Rattle.account_text.proofs.Injective.{one_list_of_rows}
use Rattle.account_text.proofs.Reading.{after}
use Rattle.account_text.proofs.Texts.{ended, not_ended}
use Rattle.account_text.proofs.read.whole.Goals as goal

pub returns-then-not-take_begin_array-clause-refused : goal.returns-then-not-take_begin_array-clause-refused
returns-then-not-take_begin_array-clause-refused c = λ _ rs small e.
    c.if-not-take_begin_array.ensures (rows_first rs (end_array ∷ [])) (c.in-Ok.ensures.ok ∙ to_tokens c.args.text.now rs e)

pub returns-in-Err-clause-refused : goal.returns-in-Err-clause-refused
returns-in-Err-clause-refused c = λ f rs small e.
    let same : c.in-Err.fault ≡ NotAccount = cc (f) in
    c.in-Err.ensures.refused (ap Err same) rs [] small
    (ap after (sym c.if-not-take_begin_array.ensures ∙ c.in-Ok.ensures.ok ∙ to_tokens c.args.text.now rs e))

pub returns-then-is_some-clause-refused : goal.returns-then-is_some-clause-refused
returns-then-is_some-clause-refused c = λ _ rs small e.
    let read = c.in-Ok-rows.ensures.read in
    let rows = ap after (sym c.if-not-take_begin_array.ensures ∙ c.in-Ok.ensures.ok ∙ to_tokens c.args.text.now rs e) in
    not_ended c.next.result c.rows.new.reader c.next.new.self c.next.ensures.value (sym c.is_some.ensures ∙ c.if-is_some.true)
    (one_list_of_rows (flat c.rows.new.found.items) rs c.rows.new.reader [] read.0 small (sym read.1 ∙ rows)).1

pub returns-clause-read : goal.returns-clause-read
returns-clause-read c =
    let read = c.in-Ok-rows.ensures.read in
    let end = ended c.next.result c.rows.new.reader c.next.new.self c.next.ensures.value (sym c.is_some.ensures ∙ c.if-is_some.false) in
    let rows = flat c.rows.new.found.items in (
      read.0,
      from_tokens c.args.text.now rows
          (sym c.in-Ok.ensures.ok ∙ c.if-not-take_begin_array.ensures ∙ ap (λ us. begin_array ∷ us) (read.1 ∙ ap (λ us. rows_first rows (end_array ∷ us)) end)),
    )
