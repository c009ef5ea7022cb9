use Rattle.std.proofs.Common.{◌+◌, ◌≡◌, ◌∷◌, ◌++◌, [], take, sym, ap, ◌∙◌}
use Rattle.std.proofs.lemmas.List.{take_more}
use Rattle.octet_account.specs.Seen.{flat_row, flat}
use Rattle.account_text.specs.proving.Tokens.{row_first, rows_first}
use Rattle.account_text.proofs.Reading.{flat_more}
use Rattle.account_text.proofs.Apart.{then, row_after}
use Rattle.account_text.proofs.write.rows.Goals as goal

pub loop-row-preserved : goal.loop-row-preserved
loop-row-preserved c =
    let i = c.loop-row.row-index in
    let rs = c.args.rows.now in
    let r = c.row-item.result in
    let taken : flat (take i rs) ++ flat_row r.listed ∷ [] ≡ flat (take (i + 1) rs) =
    sym (flat_more (take i rs) r) ∙ ap (λ q. flat (take i rs ++ q ∷ [])) c.row-item.is ∙ ap flat (sym (take_more rs i r c.loop-row-test.true)) in
    record {
      before = c.row.ensures.before ∙ c.loop-row.invariant.before;
      done = then c.args.out.now.tokens c.loop-row.out.tokens c.row.new.out.tokens (rows_first (flat (take i rs)) []) (row_first (flat_row r.listed) []) _
          c.loop-row.invariant.done c.in_ok-row.ensures.ok
          (row_after (flat (take i rs)) (flat_row r.listed) ∙ ap (λ us. rows_first us []) taken);
    }
