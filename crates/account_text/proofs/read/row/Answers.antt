use Rattle.std.proofs.Common.{◌≡◌, ◌∷◌, List, sym, ap, ◌∙◌}
use Rattle.std.specs.Prelude.{Some, None}
use Rattle.octet_account.specs.Seen.{flat_row}
use Rattle.json.specs.Token.{Token, end_array, begin_array}
use Rattle.json.specs.Json.{after_end_array}
use Rattle.account_text.proofs.Injective.{row_parts, after_listed}
use Rattle.account_text.proofs.read.row.Goals as goal

no_end : (now ts : List Token) → after_end_array now ≡ None → now ≡ end_array ∷ ts → ⊥
no_end now ts e f = never (sym e ∙ ap after_end_array f)
  where
    never : None ≡ Some ts → ⊥
    never g = absurd (cc)

pub returns-then-not-take_end_array-clause-refused : goal.returns-then-not-take_end_array-clause-refused
returns-then-not-take_end_array-clause-refused c = λ _ r ts small e.
    let first = c.if-not-take_begin_array.ensures ∙ ap (λ us. begin_array ∷ us) c.in-Some.ensures in
    let parts = row_parts c.args.reader.now c.take_kind.new.reader ts c.in-Some.kind r first e in
    let listed = c.in-Ok.ensures.read in
    no_end c.listed.new.reader ts c.if-not-take_end_array.ensures.0
    (after_listed (flat_row c.in-Ok.listed) r c.listed.new.reader (end_array ∷ ts) listed.1 small (listed.0 ∙ sym parts.0) (sym listed.2 ∙ parts.1))
