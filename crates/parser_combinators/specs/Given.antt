-- What the reading functions take and return: the tokens of a text (X.680, clause 12), and a tree or an error.
use Rattle.std.specs.Prelude.{◌≡◌, ℕ, List, Result, Ok, Err, length}
use Rattle.std.specs.List.{AllByRecursion}
use Rattle.text.specs.declared.token.Token.{Token}
use Rattle.text.specs.Items.{IsToken}
use Rattle.text.specs.Text.{IsText, IsWithinLimits, IsNoGreatNumber, IsSpanWithin}
use Rattle.grammar.specs.Reading.{Fault, Unexpected, Beyond, Limit as Limit', Nesting, Integer, TagNumber}
use Rattle.parser_combinators.specs.declared.read_error.Limit.{Limit}
use Rattle.parser_combinators.specs.declared.read_error.Limit.TheVariants as limits
use Rattle.parser_combinators.specs.declared.read_error.ReadError.{ReadError}
use Rattle.parser_combinators.specs.declared.read_error.ReadError.TheVariants as errors

-- a token of a text
pub record IsTokenIn (x : List ℕ) (t : Token) : Type 0 where
  pub token : IsToken x t
  pub within : IsSpanWithin (length x) t
  pub small : IsNoGreatNumber x t

abbrev pub AreTokens : List ℕ → List Token → Type 0
AreTokens x = AllByRecursion (IsTokenIn x)

-- the limit in an error of a reading function, as one of the limits of grammars
abbrev pub limit_of : Limit → Limit'
limit_of limits.Nesting = Nesting
limit_of limits.Integer = Integer
limit_of limits.TagNumber = TagNumber

-- What a function returned, seen by `view`, is what `read` gives, unless an allocation failed.
abbrev pub Fails : {Y : Type 0} → ReadError → Result Y Fault → Type 0
Fails errors.Memory read = Unit {0}
Fails (errors.Unexpected n) read = read ≡ Err (Unexpected n)
Fails (errors.Limit l n) read = read ≡ Err (Beyond (limit_of l) n)

abbrev pub Gives : {X Y : Type 0} → (X → Y) → Result X ReadError → Result Y Fault → Type 0
Gives view (Ok x) read = read ≡ Ok (view x)
Gives view (Err e) read = Fails e read

-- the tokens of a text that has tokens and passes no limit, as the lexer returns them
pub record IsLexed (x : List ℕ) (ts : List Token) : Type 0 where
  pub text : IsText x ts
  pub limits : IsWithinLimits x ts
