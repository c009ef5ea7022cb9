-- What a part of a text says, wherever it is.
use Rattle.std.specs.Prelude.{◌≡◌, ℕ, ◌+◌, Bool, not, ◌||◌, ◌==◌, List, ◌++◌, length, drop, slice_index, IsTrue}
use Rattle.std.specs.Char.{is_ascii_alphanumeric}
use Rattle.std.specs.List.{AllByRecursion}
use Rattle.text.specs.declared.token.Token.{Token}
use Rattle.text.specs.declared.token.TokenKind.TheVariants as kinds
use Rattle.text.specs.Items.{IsTokenOfKind}
use Rattle.text.specs.Text.{HoldsTokens, IsNoGreatNumber}
use Rattle.grammar.specs.Lexeme.{Lexeme, lexemes}

-- from place i to before place j the text has tokens that are these lexemes, and none is a number above the limit
pub record Lexes (x : List ℕ) (i j : ℕ) (ls : List Lexeme) : Type 0 where
  pub tokens : List Token
  pub holds : HoldsTokens x i j tokens
  pub says : lexemes x tokens ≡ ls
  pub small : AllByRecursion (IsNoGreatNumber x) tokens

-- octets w, wherever they are in a text, are these lexemes if what comes after them is a z with Follows z
abbrev pub Speaks : (List ℕ → Type 0) → List ℕ → List Lexeme → Type 0
Speaks Follows w ls = (x z : List ℕ) (i : ℕ) → drop i x ≡ w ++ z → Follows z → Lexes x i (i + length w) ls

-- no name, number or string goes on with this character: it is neither a letter, a digit, a hyphen, a quote nor a colon
unfoldable pub ends : ℕ → Bool
ends c = not (is_ascii_alphanumeric c || (c == 45) || (c == 34) || (c == 58))

abbrev pub Ends : List ℕ → Type 0
Ends z = IsTrue (ends (slice_index z 0))

-- an identifier by itself
abbrev pub IsIdentifierToken : List ℕ → Type 0
IsIdentifierToken w = IsTokenOfKind w kinds.Identifier 0 (length w)
