use Rattle.std.proofs.Common.{◌≡◌, ◌∷◌, ◌++◌, [], sym, ap, ◌∙◌, subst}
use Rattle.std.specs.List.{AllByRecursion}
use Rattle.json.specs.Token.{begin_array}
use Rattle.octet_account.specs.Flat.{IsSmall}
use Rattle.account_text.specs.proving.Tokens.{number_first, each_first}
use Rattle.account_text.proofs.Reading.{after, all_more, allowed_more, none_there, others_there, appended}
use Rattle.account_text.proofs.read.places.Goals as goal

pub returns-in_default-clause-refused : goal.returns-in_default-clause-refused
returns-in_default-clause-refused c = λ _ ns ts small e.
    let test = c.loop-reader-test.ensures in
    none_there number_first IsSmall c.loop-reader.reader ts test.0
    (λ n us s f. c.in_default.ensures n us s (test.1 ∙ f))
    (c.loop-reader.invariant.left ns ts small e)

pub loop-reader-preserved : goal.loop-reader-preserved
loop-reader-preserved c =
    let test = c.loop-reader-test.ensures in
    let read = c.in-Some.ensures in
    let pushed : c.push.new.self.items ≡ c.loop-reader.found.items ++ c.in-Some.place ∷ [] = appended _ _ _ _ c.push.ensures.items c.if-is_err.ensures.negation in
    record {
      small = subst (AllByRecursion IsSmall) (sym pushed) (allowed_more number_first IsSmall c.loop-reader.found.items c.in-Some.place c.loop-reader.invariant.small read.0);
      done = c.loop-reader.invariant.done
          ∙ ap (λ us. begin_array ∷ each_first c.loop-reader.found.items us) (sym test.1 ∙ read.1)
          ∙ ap (λ us. begin_array ∷ us) (sym (all_more number_first IsSmall c.loop-reader.found.items c.in-Some.place c.number.new.reader))
          ∙ ap (λ ns. begin_array ∷ each_first ns c.number.new.reader) (sym pushed);
      left = λ ns ts small e.
          others_there number_first IsSmall c.loop-reader.reader c.number.new.reader ts c.in-Some.place test.0
          (λ n us s f. ap after (sym f ∙ sym test.1 ∙ read.1))
          (c.loop-reader.invariant.left ns ts small e);
    }
