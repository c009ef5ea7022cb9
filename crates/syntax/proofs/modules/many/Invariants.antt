use Rattle.std.proofs.Common.{◌≡◌, length, map}
use Rattle.grammar.specs.Lexeme.{lexemes}
use Rattle.grammar.specs.Reading.{with_front, many_at}
use Rattle.grammar.specs.Places.{small}
use Rattle.parser_combinators.specs.Given.{AreTokens}
use Rattle.trees.specs.Modules.{assignment_tree_of}
use Rattle.syntax.specs.Reading.{begins_assignment, assignment_at}
use Rattle.syntax.proofs.modules.many.Given as goal

abbrev pub invariant-loop-alloc : goal.invariant-loop-alloc
invariant-loop-alloc l = record {
  read :
      with_front (map assignment_tree_of l.assignments.items) (many_at begins_assignment (assignment_at small l.depth) (length (lexemes l.text l.rest)) (lexemes l.text l.rest)) ≡ many_at begins_assignment (assignment_at small l.depth) (length (lexemes l.text l.fn.tokens)) (lexemes l.text l.fn.tokens);
  tokens : AreTokens l.text l.rest;
}

abbrev pub decreases-loop-alloc : goal.decreases-loop-alloc
decreases-loop-alloc l = length l.rest
