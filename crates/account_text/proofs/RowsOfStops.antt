-- What comes after the last row, field by field and in full. A definition that lost a field would fail one of these rows.
use Rattle.std.proofs.Common.{◌≡◌, List, None}
use Rattle.std.specs.List.{AllByRecursion}
use Rattle.json.specs.Token.{Token}
use Rattle.json.specs.Json.{after_end_array}
use Rattle.octet_account.specs.Flat.{FlatRow}
use Rattle.account_text.specs.Stops.{NoRowAfter}
use Rattle.account_text.specs.proving.Tokens.{IsSmallRow, row_first, rows_first}

module _ (rs : List FlatRow) (all : List Token) (h : NoRowAfter rs all) where
  rows_before : AllByRecursion IsSmallRow rs × (all ≡ rows_first rs h.rest)
  rows_before = (h.small, h.rows)

  array_goes_on : after_end_array h.rest ≡ None
  array_goes_on = h.unclosed

  no_row_next : (r : FlatRow) (ts : List Token) → IsSmallRow r → h.rest ≡ row_first r ts → ⊥
  no_row_next = h.no_row
