use Rattle.std.proofs.Common.{◌∷◌, [], take, get_or, sym, ap, ◌∙◌}
use Rattle.std.proofs.lemmas.List.{take_more, take_all}
use Rattle.json.specs.Token.{begin_array, end_array}
use Rattle.account_text.specs.proving.Tokens.{each_first, number_first, list_first}
use Rattle.account_text.proofs.Apart.{next_ok, then, number_after, each_apart}
use Rattle.account_text.proofs.write.list.Goals as goal

pub loop-place-preserved : goal.loop-place-preserved
loop-place-preserved c =
    let i = c.loop-place.place-index in
    let ps = c.args.places.now in
    record {
      before = c.number.ensures.before ∙ c.loop-place.invariant.before;
      done = then c.args.out.now.tokens c.loop-place.out.tokens c.number.new.out.tokens (begin_array ∷ each_first (take i ps) []) (number_first (get_or ps i 0) []) _
          c.loop-place.invariant.done c.in_ok-number.ensures.ok
          (ap (λ us. begin_array ∷ us) (number_after (take i ps) (get_or ps i 0) ∙ ap (λ ns. each_first ns []) (sym (take_more ps i 0 c.loop-place-test.true))));
    }

pub returns : goal.returns
returns c =
    let i = c.loop-place.place-index in
    let ps = c.args.places.now in
    record {
      ok = next_ok c.end_array.result c.args.out.now.tokens c.loop-place.out.tokens c.end_array.new.self.tokens (begin_array ∷ each_first (take i ps) []) (end_array ∷ []) (list_first ps [])
          c.loop-place.invariant.done c.end_array.ensures.ok
          (ap (λ us. begin_array ∷ us) (each_apart (take i ps) [] (end_array ∷ []) ∙ ap (λ ns. each_first ns (end_array ∷ [])) (take_all i ps c.loop-place-test.false)));
      before = c.end_array.ensures.room.0 ∙ c.loop-place.invariant.before;
    }
