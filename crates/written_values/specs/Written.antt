-- The notation of a value that a text is, and why a text is none (X.680, clauses 12 and 17).
use Rattle.std.specs.Prelude.{◌≡◌, ℕ, List}
use Rattle.text.specs.declared.lex_fault.LexFault.{LexFault}
use Rattle.text.specs.declared.lex_fault.LexFault.TheVariants as lexing
use Rattle.text.specs.declared.token.Token.{Token}
use Rattle.text.specs.Text as texts
use Rattle.grammar.specs.Lexeme.{lexemes}
use Rattle.grammar.specs.Places.{bounded}
use Rattle.parser_combinators.specs.Given.{IsLexed}
use Rattle.notation.specs.Answer as answers
use Rattle.notation.specs.Value.{values}
use Rattle.notation.specs.declared.syntax_fault.SyntaxFault.{SyntaxFault}
use Rattle.notation.specs.declared.syntax_fault.SyntaxFault.TheVariants as parsing
use Rattle.trees.specs.Values.{Tree}
use Rattle.written_values.specs.declared.written.ValueTextFault.{ValueTextFault}
use Rattle.written_values.specs.declared.written.ValueTextFault.TheVariants as faults

-- Text x has tokens, and all of them, in order, are those of one value with notation n (X.680, clauses 12 and 17). At
-- most 128 braces and alternatives are open at one place (own rule).
pub record IsNotation (x : List ℕ) (n : Tree) : Type 0 where
  -- the octets are white space, comments and these tokens
  pub tokens : List Token
  pub lexed : IsLexed x tokens
  -- no token is left over
  pub is : (values (bounded 128)).Is n (lexemes x tokens)

-- the text has no tokens, for the reason that the fault gives, which is at this octet of the text
pub record HasNoTokens (x : List ℕ) (f : LexFault) : Type 0 where
  pub no_memory : f ≡ lexing.Memory → ⊥
  pub fault : texts.IsRightTextFault x f

-- The text has tokens, and they aren't those of one value. The fault has the first token with which no value can go on,
-- or the end of the tokens.
pub record IsNoValue (x : List ℕ) (f : SyntaxFault) : Type 0 where
  pub no_memory : f ≡ parsing.Memory → ⊥
  pub tokens : List Token
  pub lexed : IsLexed x tokens
  pub fault : answers.IsRightNotationFault values (lexemes x tokens) 0 (bounded 128) f

-- The text is no notation of a value: it has no tokens, or otherwise they aren't those of one value. `Memory` says
-- nothing.
abbrev pub IsNoNotation : List ℕ → ValueTextFault → Type 0
IsNoNotation x faults.Memory = Unit {0}
IsNoNotation x (faults.Octets f) = HasNoTokens x f
IsNoNotation x (faults.Tokens f) = IsNoValue x f
