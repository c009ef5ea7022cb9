use Rattle.std.proofs.Common.{◌∷◌, [], refl, ap, ◌∙◌}
use Rattle.json.specs.Token.{begin_array, string}
use Rattle.octet_account.specs.Seen.{numbers_of}
use Rattle.account_text.specs.proving.Tokens.{kind_name, number_first, numbers_first, list_first}
use Rattle.account_text.proofs.Apart.{next_ok, then, list_apart}
use Rattle.account_text.proofs.write.set.Goals as goal

pub returns : goal.returns
returns c =
    let set = c.args.set.now in
    let counted = then c.args.out.now.tokens c.header.new.out.tokens c.number.new.out.tokens (begin_array ∷ string (kind_name c.args.kind) ∷ numbers_first (numbers_of c.args.numbers.now) []) (number_first set.members []) _
    c.in_ok-header.ensures.ok c.in_ok-number.ensures.ok refl in
    let placed = then c.args.out.now.tokens c.number.new.out.tokens c.list.new.out.tokens _ (list_first c.as_slice.result.now []) _
    counted c.in_ok-list.ensures.ok refl in
    record {
      ok = next_ok c.list-2.result c.args.out.now.tokens c.list.new.out.tokens c.list-2.new.out.tokens _ (list_first c.as_slice-2.result.now []) _
          placed c.list-2.ensures.ok
          (ap (λ us. begin_array ∷ string (kind_name c.args.kind) ∷ numbers_first (numbers_of c.args.numbers.now) (number_first set.members us))
          (list_apart c.as_slice.result.now [] (list_first c.as_slice-2.result.now [])
          ∙ ap (λ ps. list_first ps (list_first c.as_slice-2.result.now [])) c.as_slice.ensures.value
          ∙ ap (λ qs. list_first set.places.items (list_first qs [])) c.as_slice-2.ensures.value));
      before = c.list-2.ensures.before ∙ c.in_ok-list.ensures.before ∙ c.in_ok-number.ensures.before ∙ c.in_ok-header.ensures.before;
    }
