-- What a listing says, field by field and in full. A definition that lost a field would fail one of these rows.
use Rattle.std.proofs.Common.{ℕ, ◌<◌, ◌≤◌, List, length}
use Rattle.std.specs.List.{AllByRecursion}
use Rattle.encodings.specs.Header.{Octets}
use Rattle.header_listing.specs.Lines.{AreLines}
use Rattle.header_listing.specs.Listing.{IsListing}
use Rattle.header_listing.specs.Shown.{ShowsLines, offset_of}

module _ (o : Octets) (limit stop : ℕ) (text : List ℕ) (h : IsListing o limit stop text) where
  listed : ShowsLines 0 0 o stop h.lines
  listed = h.shown

  below_limit : AllByRecursion (λ l. offset_of l < limit) h.lines
  below_limit = h.before

  up_to_limit : stop < length o → limit ≤ stop
  up_to_limit = h.all

  lines_of_text : AreLines h.lines text
  lines_of_text = h.are_lines
