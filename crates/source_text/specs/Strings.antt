-- What a message says of tokens, words and strings at a place of a text.
use Rattle.std.specs.Prelude.{◌≡◌, ℕ, ◌+◌, List, [], ◌∷◌, Option, None, Some, Bool, ◌==◌, ◌||◌, if◌then◌else◌}
use Rattle.std.specs.Prelude.{codes, drop, get_or, length, take, take_while}
use Rattle.std.specs.Char.{is_ascii_alphanumeric, is_ascii_hexdigit, is_ascii_whitespace}
use Rattle.std.specs.List.{before_first, list_all, position_or_len}
use Rattle.text.specs.declared.token.Token.{Token}
use Rattle.text.specs.declared.token.TokenKind.{TokenKind}

-- there is a token, and it is of this kind
abbrev pub IsOfKind : TokenKind → Option Token → Type 0
IsOfKind kind None = ⊥
IsOfKind kind (Some token) = token.kind ≡ kind

-- whether an octet can be in a name or a word: a letter, a digit or a hyphen
abbrev pub is_in_word : ℕ → Bool
is_in_word c = is_ascii_alphanumeric c || (c == 45)

-- the name or the word that begins at offset n: the octets from there on, up to the first that can't be in one
abbrev pub word_at : List ℕ → ℕ → List ℕ
word_at x n = take_while is_in_word (drop n x)

-- whether an octet is CR or LF
abbrev pub is_line_end : ℕ → Bool
is_line_end c = (c == 10) || (c == 13)

-- what is wrong in digits before H that are not those of a hexadecimal string (X.680, 12.12)
abbrev pub wrong_hex : List ℕ → List ℕ
wrong_hex digits =
    if list_all (λ c. is_ascii_hexdigit c || is_ascii_whitespace c) digits
    then codes "found digits in lower case, expected A to F in upper case before H"
    else codes "found other characters before H, expected digits 0 to 9 and A to F"

-- what is wrong in a string whose second apostrophe, after k octets, has octet c after it (X.680, 12.10 and 12.12)
abbrev pub wrong_string : (digits : List ℕ) → (c : ℕ) → List ℕ
wrong_string digits c =
    if c == 66
    then codes "found other characters before B, expected digits 0 and 1"
    else (if c == 72
    then wrong_hex digits
    else codes "found apostrophes without B or H after them, expected one of the two")

-- The mistake in a string that gives no token, by what follows its first apostrophe on the line: octets x, of which the
-- first k come before the next apostrophe.
abbrev pub wrong_digits : (x : List ℕ) → (k : ℕ) → List ℕ
wrong_digits x k =
    if k == length x
    then codes "found an apostrophe that is not closed on its line, expected a second one"
    else wrong_string (take k x) (get_or x (k + 1) 0)

-- The mistake in a string that gives no token and begins with the first of these octets: a quote, or an apostrophe.
abbrev pub open_string : List ℕ → List ℕ
open_string [] = wrong_digits [] 0
open_string (c ∷ rest) =
    if c == 34
    then codes "found quotes that are not closed on their line, expected the closing ones"
    else (let x = before_first is_line_end rest in wrong_digits x (position_or_len (λ c. c == 39) x))
