use Rattle.std.proofs.Common.{◌≡◌, length, List}
use Rattle.grammar.specs.Lexeme.{lexemes}
use Rattle.grammar.specs.Reading.{many_at}
use Rattle.grammar.specs.Places.{small}
use Rattle.parser_combinators.specs.Given.{AreTokens}
use Rattle.grammar.specs.Rules.{made}
use Rattle.module_head.specs.ImportReading.{begins_arc, arc_at, more_arcs_at}
use Rattle.module_head.proofs.importing.more_arcs.Given as goal

abbrev pub invariant-loop-rest : goal.invariant-loop-rest
invariant-loop-rest l = record {
  read :
      made (λ (xs : List (Unit {0})). tt) (many_at begins_arc (arc_at small) (length (lexemes l.text l.rest)) (lexemes l.text l.rest)) ≡ more_arcs_at small (lexemes l.text l.fn.tokens);
  tokens : AreTokens l.text l.rest;
}

abbrev pub decreases-loop-rest : goal.decreases-loop-rest
decreases-loop-rest l = length l.rest
