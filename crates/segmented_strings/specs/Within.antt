-- Strings in segments, within a number of levels of headers (X.690, 8.6.4, 8.7.3 and 8.23).
use Rattle.std.specs.Prelude.{◌≡◌, ℕ, ◌≤◌, Bool, List, ◌++◌, length}
use Rattle.asn_base.specs.declared.tag.Tag.{Tag}
use Rattle.encodings.specs.Header.{Octets, Header}
use Rattle.encodings.specs.Strings.{Pieces, Segments, BitPieces, BitSegments}
use Rattle.encodings.specs.Levels.{piece_levels, segment_levels, bit_piece_levels, bit_segment_levels}

-- o starts with a header of tag g, constructed or not by c; x are the contents that it promises, and rest follows them
pub record SegmentAt (g : Tag) (c : Bool) (x rest o : Octets) : Type 0 where
  pub header : Octets
  pub is_header : Header g c (length x) header
  pub whole : o ≡ header ++ (x ++ rest)

-- contents x, constructed or not by c, contain the octets s, with at most `room` levels of headers
pub record PiecesWithin (room : ℕ) (s : Octets) (c : Bool) (x : Octets) : Type 0 where
  pub pieces : Pieces s c x
  pub few : piece_levels pieces ≤ room

-- segments contain the octets s, with at most `room` levels of headers
pub record OctetsWithin (room : ℕ) (s o : Octets) : Type 0 where
  pub segments : Segments s o
  pub few : segment_levels segments ≤ room

-- the same for bits
pub record BitPiecesWithin (room : ℕ) (s : List Bool) (c : Bool) (x : Octets) : Type 0 where
  pub pieces : BitPieces s c x
  pub few : bit_piece_levels pieces ≤ room

pub record BitsWithin (room : ℕ) (s : List Bool) (o : Octets) : Type 0 where
  pub segments : BitSegments s o
  pub few : bit_segment_levels segments ≤ room
