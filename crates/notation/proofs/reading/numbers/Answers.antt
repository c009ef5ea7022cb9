use Rattle.std.proofs.Common.{ℕ, List, ◌∷◌, length, ap, sym, ◌∙◌}
use Rattle.std.proofs.lemmas.Result.{err_from_is_err_and}
use Rattle.std.proofs.lemmas.List.{length-map}
use Rattle.grammar.specs.Lexeme.{Lexeme, Number, lexeme_of, lexemes}
use Rattle.grammar.specs.Reading.{with_front}
use Rattle.grammar.specs.Places.{small}
use Rattle.notation.specs.Reading.{numbers_at}
use Rattle.notation.proofs.Loop.{numbers_more, numbers_end, numbers_stop}
use Rattle.notation.proofs.reading.numbers.Goals as goal

pub loop-number-preserved : goal.loop-number-preserved
loop-number-preserved c =
    let after = lexemes c.args.text.now c.in-Some.after.now in
    let h = c.in-Some.ensures in
    let s = c.in_ok-small_number.ensures in
    let e = h.0 ∙ ap (λ (n : ℕ). Number n ∷ after) (sym s.0) in
    record {
      read = rw c.in_ok-push-3.ensures.items (numbers_more small c.in_ok-small_number.field-0 after c.loop-number.numbers.items _ s.1 (ap (λ (l : List Lexeme). with_front c.loop-number.numbers.items (numbers_at small l)) (sym e) ∙ c.loop-number.invariant.read));
      tokens = h.3;
    }

pub returns-in_err-small_number-clause-read : goal.returns-in_err-small_number-clause-read
returns-in_err-small_number-clause-read c =
    let p = err_from_is_err_and c.from_residual-in_err-small_number.result c.from_residual-in_err-small_number.ensures.1 in
    let x = c.args.text.now in
    let h = c.in-Some.ensures in
    let s = c.in_err-small_number.ensures in
    rw (p.1, p.2) (numbers_stop small _ (lexemes x c.loop-number.rest.now) (lexemes x c.in-Some.after.now) (length c.loop-number.rest.now) c.in_err-small_number.field-0.0 c.loop-number.numbers.items _ h.0 (sym (length-map c.loop-number.rest.now (lexeme_of x))) s.0 s.1 c.loop-number.invariant.read)

pub returns-clause-read : goal.returns-clause-read
returns-clause-read c = numbers_end small _ _ _ c.in_default.ensures c.loop-number.invariant.read
