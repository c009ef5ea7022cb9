use Rattle.std.proofs.Common.{◌∷◌, [], ap, ◌∙◌}
use Rattle.json.specs.Token.{begin_array, end_array, string}
use Rattle.octet_account.specs.Seen.{flat_row}
use Rattle.account_text.specs.proving.Tokens.{kind_name, kind_of, listed_first, row_first}
use Rattle.account_text.proofs.Apart.{next_ok, listed_apart}
use Rattle.account_text.proofs.write.row.Goals as goal

pub returns : goal.returns
returns c =
    let r = flat_row c.args.row.now.listed in
    record {
      ok = next_ok c.end_array.result c.args.out.now.tokens c.listed.new.out.tokens c.end_array.new.self.tokens
          (begin_array ∷ string (kind_name (kind_of r)) ∷ listed_first r []) (end_array ∷ []) (row_first r [])
          c.in_ok-listed.ensures.ok c.end_array.ensures.ok
          (ap (λ us. begin_array ∷ string (kind_name (kind_of r)) ∷ us) (listed_apart r [] (end_array ∷ [])));
      before = c.end_array.ensures.room.0 ∙ c.in_ok-listed.ensures.before;
    }
