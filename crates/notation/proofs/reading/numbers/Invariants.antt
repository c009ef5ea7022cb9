use Rattle.std.proofs.Common.{◌≡◌, [], ◌∷◌, length}
use Rattle.grammar.specs.Lexeme.{lexemes}
use Rattle.grammar.specs.Reading.{with_front}
use Rattle.grammar.specs.Places.{small}
use Rattle.parser_combinators.specs.Given.{AreTokens}
use Rattle.notation.specs.Reading.{numbers_at}
use Rattle.notation.proofs.reading.numbers.Given as goal

abbrev pub invariant-loop-number : goal.invariant-loop-number
invariant-loop-number l = record {
  read :
      with_front l.numbers.items (numbers_at small (lexemes l.text l.rest)) ≡ with_front (l.first ∷ l.second ∷ []) (numbers_at small (lexemes l.text l.fn.tokens));
  tokens : AreTokens l.text l.rest;
}

abbrev pub decreases-loop-number : goal.decreases-loop-number
decreases-loop-number l = length l.rest
