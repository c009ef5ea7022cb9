-- What the results of the reading functions are.
use Rattle.std.proofs.Common.{Bor}
use Rattle.std.specs.Prelude.{ℕ, List, Result, slice_range}
use Rattle.text.specs.declared.token.Token.{Token}
use Rattle.text.specs.Items.{number_value}
use Rattle.grammar.specs.Lexeme.{lexemes, chars_between}
use Rattle.grammar.specs.Reading.{Reader}
use Rattle.parser_combinators.specs.declared.read_error.ReadError.{ReadError}
use Rattle.parser_combinators.specs.Given.{Gives}

-- What is returned, seen by `view`, and the tokens after it are what `read` gives for the tokens, unless an allocation
-- failed.
abbrev pub ReadsAs : {A B : Type 0} → (A → B) → Reader B → List ℕ → List Token
    → Result (A × Bor (List Token)) ReadError
    → Type 0
ReadsAs view read x ts result = Gives (λ p. (view p.0, lexemes x p.1.now)) result (read (lexemes x ts))

-- The returned tokens are those after the ones that `read` reads, unless an allocation failed.
abbrev pub SkipsAs : Reader (Unit {0}) → List ℕ → List Token → Result (Bor (List Token)) ReadError → Type 0
SkipsAs read x ts result = Gives (λ rest. (tt, lexemes x rest.now)) result (read (lexemes x ts))

-- the octets of the name, the number, or the octets between quotes that a token has
abbrev pub name_in : List ℕ → Token → List ℕ
name_in x t = slice_range x t.span.start t.span.end

abbrev pub number_in : List ℕ → Token → ℕ
number_in x t = number_value x t.span.start t.span.end

abbrev pub text_in : List ℕ → Token → List ℕ
text_in x t = chars_between x t.span.start t.span.end
