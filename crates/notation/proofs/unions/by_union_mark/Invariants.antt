use Rattle.std.proofs.Common.{◌≡◌, length, map}
use Rattle.grammar.specs.Lexeme.{lexemes}
use Rattle.grammar.specs.Reading.{with_front, many_at}
use Rattle.parser_combinators.specs.Given.{AreTokens}
use Rattle.notation.specs.ConstraintReading.{is_union_mark, union_mark_then_at, by_union_mark_at}
use Rattle.notation.proofs.unions.by_union_mark.Given as goal

abbrev pub invariant-loop-after : goal.invariant-loop-after
invariant-loop-after g l = record {
  read :
      with_front (map g.P.Parser.view l.parts.items) (many_at is_union_mark (union_mark_then_at (g.P.Parser.reader l.part)) (length (lexemes l.text l.rest)) (lexemes l.text l.rest)) ≡ by_union_mark_at (g.P.Parser.reader l.part) (lexemes l.text l.fn.tokens);
  tokens : AreTokens l.text l.rest;
}

abbrev pub decreases-loop-after : goal.decreases-loop-after
decreases-loop-after g l = length l.rest
