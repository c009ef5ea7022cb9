-- The meaning of a routine for the accounts of its type's encodings (X.690, 8.1).
use Rattle.std.specs.Prelude.{◌≡◌, ◌<◌, ◌^◌, List, length}
use Rattle.asn_base.specs.Abstract.{AbstractValue}
use Rattle.asn_base.specs.Types.{TypeNumber, Resolved}
use Rattle.encodings.specs.Header.{Octets}
use Rattle.encodings.specs.Account.{Account, Describes}
use Rattle.codec_code.specs.Events.{Event, Tree, flat}
use Rattle.octet_account.specs.Flat.{FlatRow, rows_of}
use Rattle.account_rows.specs.RowLayout.{RowLayout}
use Rattle.account_rows.specs.Lengths.{octets_in}

-- octets o of value v have an account with these rows
pub record HasRows (s : List Resolved) (t : TypeNumber) (v : AbstractValue) (o : Octets) (rs : List FlatRow)
    : Type 0 where
  pub account : Account
  pub describes : Describes s t v o account
  pub rows : rs ≡ rows_of account

-- The events are those of a tree. If the tree has octets and rows, these are those of an account of the value.
pub record GivesRows (s : List Resolved) (t : TypeNumber) (v : AbstractValue) (es : List Event) : Type 0 where
  pub tree : Tree
  pub listed : es ≡ flat tree
  pub account : (o : Octets) (rs : List FlatRow) → RowLayout tree o rs → length o < 2 ^ 64 → HasRows s t v o rs
  -- the number of octets is the same in each account of the value
  pub as_many : (o : Octets) (a : Account) → Describes s t v o a → length o ≡ octets_in tree
