-- The items in the row of a set.
use Rattle.std.specs.Prelude.{◌≡◌, List}
use Rattle.std.specs.List.{AllByRecursion}
use Rattle.json.specs.Token.{Token}
use Rattle.encodings.specs.Account.{Numbers}
use Rattle.octet_account.specs.declared.row.Places.{Places}
use Rattle.octet_account.specs.Flat.{IsSmall, AreSmall}
use Rattle.account_text.specs.proving.Tokens.{number_first, numbers_first, list_first}

pub record IsSet (z : Numbers) (s : Places) (now next : List Token) : Type 0 where
  pub numbers : AreSmall z
  pub members : IsSmall s.members
  pub places : AllByRecursion IsSmall s.places.items
  pub inverse : AllByRecursion IsSmall s.inverse.items
  pub there : now
      ≡ numbers_first z (number_first s.members (list_first s.places.items (list_first s.inverse.items next)))
