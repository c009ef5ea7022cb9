-- Where octets stop being the text of an account (own rule; RFC 8259 for JSON, RFC 3629 for UTF-8).
use Rattle.std.specs.Prelude.{◌≡◌, ◌≤◌, ℕ, List, [], ◌∷◌, length, None, IsUtf8}
use Rattle.std.specs.Str.{IsValidUpTo}
use Rattle.std.specs.List.{AllByRecursion}
use Rattle.json.specs.Token.{Token, begin_array, end_array}
use Rattle.json.specs.Json.{after_end_array}
use Rattle.json.specs.Lex.{tokens}
use Rattle.octet_account.specs.Flat.{FlatRow}
use Rattle.account_text.specs.declared.stop.Stop.{Stop}
use Rattle.account_text.specs.declared.stop.Stop.TheVariants as stops
use Rattle.account_text.specs.proving.Tokens.{IsSmallRow, row_first, rows_first}

-- these tokens begin with these rows, and neither a row nor the bracket that closes their array comes next
pub record NoRowAfter (rs : List FlatRow) (all : List Token) : Type 0 where
  -- the tokens after the rows
  pub rest : List Token
  pub small : AllByRecursion IsSmallRow rs
  pub rows : all ≡ rows_first rs rest
  -- the array isn't closed
  pub unclosed : after_end_array rest ≡ None
  -- the tokens after the rows don't begin with a row
  pub no_row : (r : FlatRow) (ts : List Token) → IsSmallRow r → rest ≡ row_first r ts → ⊥

-- What is wrong where the array of all rows is closed, of which there are n: more tokens follow, or the rows aren't
-- those of one account. The text has so many octets. Of the offset of what follows only this is said: it is within the
-- text.
pub data IsStopAfter (octets n : ℕ) : List Token → Stop → Type 0 where
  more : {offset : ℕ} {t : Token} {ts : List Token} →
      offset ≤ octets →
      IsStopAfter octets n (t ∷ ts) (stops.Behind offset)
  all : IsStopAfter octets n [] (stops.NotOne n)

-- The octets stop being the text of an account there. The octet is said of what isn't UTF-8, and the number of rows
-- before it of what isn't a row. The offset of what isn't a row is within the text.
pub data IsStop (o : List ℕ) : Stop → Type 0 where
  -- the octets before this one are UTF-8, and no longer beginning is
  not_text : {n : ℕ} → IsValidUpTo o n → IsStop o (stops.NotText n)
  -- the text doesn't begin with the bracket of an array
  not_array : IsUtf8 o → ((ts : List Token) → tokens o ≡ begin_array ∷ ts → ⊥) → IsStop o stops.NotArray
  -- an array begins, in which so many rows come before what isn't one
  not_row : {offset : ℕ} {ts : List Token} (rs : List FlatRow) →
      tokens o ≡ begin_array ∷ ts →
      NoRowAfter rs ts →
      offset ≤ length o →
      IsStop o (stops.NotRow (length rs) offset)
  -- the text begins with an array of rows
  after_all : {s : Stop} {ts : List Token} (rs : List FlatRow) →
      AllByRecursion IsSmallRow rs →
      tokens o ≡ begin_array ∷ rows_first rs (end_array ∷ ts) →
      IsStopAfter (length o) (length rs) ts s →
      IsStop o s
