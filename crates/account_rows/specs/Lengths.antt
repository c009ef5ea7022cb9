-- How many octets a tree of events has. The number doesn't depend on the order of members.
use Rattle.std.specs.Prelude.{ℕ, ◌+◌, true, length}
use Rattle.encodings.specs.Fewest.{shortest_header}
use Rattle.codec_code.specs.Events.{Tree, done, piece, lacking, within, ordered, Members, no_member, no_component}
use Rattle.codec_code.specs.Events.{member}

abbrev mutual
  pub octets_in : Tree → ℕ
  octets_in done = 0
  octets_in (piece x t) = length x + octets_in t
  octets_in (lacking d t) = octets_in t
  octets_in (within g c k i t) = length (shortest_header g c (octets_in i)) + (octets_in i + octets_in t)
  octets_in (ordered g o ms t) = length (shortest_header g true (members_in ms)) + (members_in ms + octets_in t)

  pub members_in : Members → ℕ
  members_in no_member = 0
  members_in (no_component d ms) = members_in ms
  members_in (member r i ms) = octets_in i + members_in ms
