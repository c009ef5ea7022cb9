-- What it is for a text to be read back as a value (X.680, clauses 12 and 17).
use Rattle.std.specs.Prelude.{◌≡◌, ℕ, ℤ, List, [], Ok}
use Rattle.asn_base.specs.Abstract.{AbstractValue}
use Rattle.text.specs.declared.token.Token.{Token}
use Rattle.grammar.specs.Lexeme.{lexemes}
use Rattle.grammar.specs.Places.{small}
use Rattle.parser_combinators.specs.Given.{IsLexed}
use Rattle.notation.specs.Reading.{value_at}
use Rattle.trees.specs.Values.{Name, Tree}
use Rattle.resolve.specs.Program.{Program}
use Rattle.value_notations.specs.Notations.{Notation}
use Rattle.value_notations.specs.Values.{IsTyped}

-- The text has tokens within the limits, which are read as one tree with nothing left. Read in module M under type i
-- this tree stands for v, which is a value of the type, and for no other value.
pub record IsReadBack (p : Program) (Allows : ℕ → ℤ → Type 0) (AllowsCode : ℕ → ℕ → Type 0) (M : Name) (i : ℕ)
    (text : List ℕ) (v : AbstractValue) : Type 0 where
  pub tokens : List Token
  pub lexed : IsLexed text tokens
  pub tree : Tree
  pub read : value_at small 128 (lexemes text tokens) ≡ Ok (tree, [])
  pub typed : IsTyped p Allows AllowsCode M i tree v
  pub alone : (w : AbstractValue) → Notation p [] M i tree w → w ≡ v
