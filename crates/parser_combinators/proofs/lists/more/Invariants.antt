use Rattle.std.proofs.Common.{◌≡◌, length, map}
use Rattle.grammar.specs.Lexeme.{lexemes}
use Rattle.parser_combinators.specs.Given.{AreTokens}
use Rattle.grammar.specs.Reading.{with_root, more_at}
use Rattle.parser_combinators.proofs.lists.more.Given as goal

abbrev pub invariant-loop-after : goal.invariant-loop-after
invariant-loop-after g l = record {
  read :
      with_root (map g.P.Parser.view l.root.items) (more_at (g.P.Parser.reader l.list.part) (g.Q.Parser.reader l.list.addition) (length (lexemes l.text l.rest)) (lexemes l.text l.rest)) ≡ with_root (map g.P.Parser.view l.fn.root.items) (more_at (g.P.Parser.reader l.list.part) (g.Q.Parser.reader l.list.addition) (length (lexemes l.text l.fn.tokens)) (lexemes l.text l.fn.tokens));
  tokens : AreTokens l.text l.rest;
}

abbrev pub decreases-loop-after : goal.decreases-loop-after
decreases-loop-after g l = length l.rest
