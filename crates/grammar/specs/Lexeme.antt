-- What the tokens of a text mean, without their places (X.680, clause 12).
use Rattle.std.specs.Prelude.{ℕ, ◌+◌, ◌-◌, ◌==◌, List, [], ◌∷◌, map, slice_range, Option, Some, None, if◌then◌else◌}
use Rattle.std.specs.List.{filter_map}
use Rattle.std.specs.Char.{digit_value}
use Rattle.text.specs.declared.token.Token.{Token}
use Rattle.text.specs.declared.token.TokenKind.{TokenKind}
use Rattle.text.specs.declared.token.TokenKind.TheVariants as kinds
use Rattle.text.specs.declared.token.Mark.{Mark as Mark'}
use Rattle.text.specs.declared.reserved.Word.{Word as Word'}
use Rattle.text.specs.Octets.{is_hex}
use Rattle.text.specs.Items.{number_value}

-- the meaning of a token, which is all that productions see of it
pub data Lexeme : Type 0 where
  -- a name with a capital first letter, of a type or a module: its octets
  TypeRef : List ℕ → Lexeme
  -- a name with a small first letter, of a value, or an identifier: its octets
  Ident : List ℕ → Lexeme
  Number : ℕ → Lexeme
  -- the digits of binary and of hexadecimal strings, and the octets of character strings
  BString : List ℕ → Lexeme
  HString : List ℕ → Lexeme
  CString : List ℕ → Lexeme
  -- a reserved word
  Word : Word' → Lexeme
  -- a mark, as `::=` or `{`
  Mark : Mark' → Lexeme

-- a digit's value; white space between digits has none
unfoldable pub digit_of : ℕ → Option ℕ
digit_of c = if is_hex c then Some (digit_value c) else None

-- the digits between the apostrophes of a string, whose last octet is a letter
abbrev pub digits_between : List ℕ → ℕ → ℕ → List ℕ
digits_between x i j = filter_map digit_of (slice_range x (i + 1) (j - 2))

-- The octets with one quote in place of each two. Between the quotes of a character string, quotes are only in pairs.
unfoldable pub single_quotes : List ℕ → List ℕ
single_quotes [] = []
single_quotes (c ∷ []) = c ∷ []
single_quotes (c ∷ d ∷ x) = if (c == 34) then (c ∷ single_quotes x) else (c ∷ single_quotes (d ∷ x))

-- the octets between the quotes
abbrev pub chars_between : List ℕ → ℕ → ℕ → List ℕ
chars_between x i j = single_quotes (slice_range x (i + 1) (j - 1))

-- the meaning of a part of a text with this kind of token
abbrev pub lexeme_at : List ℕ → TokenKind → ℕ → ℕ → Lexeme
lexeme_at x kinds.TypeReference i j = TypeRef (slice_range x i j)
lexeme_at x kinds.Identifier i j = Ident (slice_range x i j)
lexeme_at x kinds.Number i j = Number (number_value x i j)
lexeme_at x kinds.BinaryString i j = BString (digits_between x i j)
lexeme_at x kinds.HexString i j = HString (digits_between x i j)
lexeme_at x kinds.CharacterString i j = CString (chars_between x i j)
lexeme_at x (kinds.Reserved w) i j = Word w
lexeme_at x (kinds.Mark m) i j = Mark m

-- the meaning of a token of text x
abbrev pub lexeme_of : List ℕ → Token → Lexeme
lexeme_of x t = lexeme_at x t.kind t.span.start t.span.end

-- the meanings of these tokens of text x, in order
abbrev pub lexemes : List ℕ → List Token → List Lexeme
lexemes x ts = map (lexeme_of x) ts
