use Rattle.std.proofs.Common.{◌≡◌, length, map}
use Rattle.grammar.specs.Lexeme.{lexemes}
use Rattle.grammar.specs.Reading.{with_front, after_commas_at}
use Rattle.parser_combinators.specs.Given.{AreTokens}
use Rattle.parser_combinators.proofs.lists.after_commas.Given as goal

abbrev pub invariant-loop-after : goal.invariant-loop-after
invariant-loop-after g l = record {
  read :
      with_front (map g.P.Parser.view l.items.items) (after_commas_at (g.P.Parser.reader l.part) (length (lexemes l.text l.rest)) (lexemes l.text l.rest)) ≡ with_front (map g.P.Parser.view l.fn.items.items) (after_commas_at (g.P.Parser.reader l.part) (length (lexemes l.text l.fn.tokens)) (lexemes l.text l.fn.tokens));
  tokens : AreTokens l.text l.rest;
}

abbrev pub decreases-loop-after : goal.decreases-loop-after
decreases-loop-after g l = length l.rest
