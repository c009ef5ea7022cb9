use Rattle.std.proofs.Common.{◌≡◌, ◌∷◌, ℕ, List, length}
use Rattle.std.specs.List.{AllByRecursion}
use Rattle.json.specs.Token.{Token, begin_array}
use Rattle.octet_account.specs.Flat.{IsSmall}
use Rattle.account_text.specs.proving.Tokens.{number_first, each_first, list_first}
use Rattle.account_text.proofs.Reading.{IsThere}
use Rattle.account_text.proofs.read.places.Given as goal

abbrev pub invariant-loop-reader : goal.invariant-loop-reader
invariant-loop-reader l = record {
  small : AllByRecursion IsSmall l.found.items;
  done : l.fn.reader ≡ begin_array ∷ each_first l.found.items l.reader;
  left : (ns : List ℕ) (ts : List Token) → AllByRecursion IsSmall ns → l.fn.reader ≡ list_first ns ts → IsThere number_first IsSmall l.reader ts;
}

abbrev pub decreases-loop-reader : goal.decreases-loop-reader
decreases-loop-reader l = length l.reader
