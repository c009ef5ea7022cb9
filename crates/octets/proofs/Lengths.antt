-- How many octets the parts of a header have.
use Rattle.std.proofs.Common.{◌≡◌, ℕ, ◌+◌, Bool, length, length-append}
use Rattle.asn_base.specs.declared.tag.Tag.{Tag}
use Rattle.encodings.specs.Header.{identifier}
use Rattle.encodings.specs.Fewest.{shortest_size, shortest_header}
pub use Rattle.encodings.specs.proving.Lengths.{septets_short, septets_step, septets_most, identifier_long, size_long}

pub header_length : (t : Tag) (c : Bool) (n : ℕ) → length (shortest_header t c n) ≡ length (identifier t.class t.number c) + length (shortest_size n)
unfolding shortest_header
header_length t c n = length-append (identifier t.class t.number c) (shortest_size n)
