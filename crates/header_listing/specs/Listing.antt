-- The text that shows the headers of octets.
use Rattle.std.specs.Prelude.{ℕ, ◌<◌, ◌≤◌, List, length}
use Rattle.std.specs.List.{AllByRecursion}
use Rattle.encodings.specs.Header.{Octets}
use Rattle.header_listing.specs.Shown.{Line, offset_of, ShowsLines}
use Rattle.header_listing.specs.Lines.{AreLines}

-- The text has a line for each header of octets o whose offset is below `limit`, and for nothing else. The lines show
-- the first `stop` octets: all that are before the limit, or all there are.
pub record IsListing (o : Octets) (limit stop : ℕ) (text : List ℕ) : Type 0 where
  pub lines : List Line
  pub shown : ShowsLines 0 0 o stop lines
  pub before : AllByRecursion (λ l. offset_of l < limit) lines
  pub all : stop < length o → limit ≤ stop
  pub are_lines : AreLines lines text
