use Rattle.std.proofs.Common.{◌≡◌, ◌∷◌, List, length}
use Rattle.std.specs.List.{AllByRecursion}
use Rattle.json.specs.Token.{Token, end_array}
use Rattle.octet_account.specs.Flat.{FlatRow}
use Rattle.octet_account.specs.Seen.{flat}
use Rattle.account_text.specs.proving.Tokens.{IsSmallRow, row_first, rows_first}
use Rattle.account_text.proofs.Reading.{IsThere}
use Rattle.account_text.proofs.read.rows.Given as goal

abbrev pub invariant-loop-alloc : goal.invariant-loop-alloc
invariant-loop-alloc l = record {
  small : AllByRecursion IsSmallRow (flat l.found.items);
  done : l.fn.reader ≡ rows_first (flat l.found.items) l.reader;
  left : (rs : List FlatRow) (ts : List Token) → AllByRecursion IsSmallRow rs → l.fn.reader ≡ rows_first rs (end_array ∷ ts) → IsThere row_first IsSmallRow l.reader ts;
}

abbrev pub decreases-loop-alloc : goal.decreases-loop-alloc
decreases-loop-alloc l = length l.reader
