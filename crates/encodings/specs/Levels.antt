-- The number of levels of headers in an encoding (X.690, clause 8.1.1). The outermost header is one level, and a header
-- inside constructed contents is one level more. Within an unknown addition only its own header counts.
use Rattle.std.specs.Prelude.{ℕ, suc, ◌+◌, max, Bool, List, length}
use Rattle.asn_base.specs.Abstract.{AbstractValue, Row}
use Rattle.asn_base.specs.Types.{Kind, Component, Resolved}
use Rattle.encodings.specs.Rules.{Rules}
use Rattle.encodings.specs.Strings.{Pieces, whole, cut, Segments, no_segment, segment, BitPieces, whole_bits, cut_bits}
use Rattle.encodings.specs.Strings.{BitSegments, last_segment, bit_segment}
use Rattle.encodings.specs.Contents.{Contents, of_false, of_true, of_integer, of_enumerated, of_bits, of_named_bits}
use Rattle.encodings.specs.Contents.{of_octets, of_null, of_oid, of_relative_oid, of_utf8, of_restricted}
use Rattle.encodings.specs.Encoding.{no_unknown, unknown, UnknownIf, closed, extensible, EncodesTo, says, ContentsEncode, leaf}
use Rattle.encodings.specs.Encoding.{sequence, set, sequence_of, set_of, choice, Members, no_member, left_out, member}
use Rattle.encodings.specs.Encoding.{Elements, no_element, element}

abbrev mutual
  -- the levels of headers within the contents octets of a string, none if it is whole, else those of its segments
  -- (X.690, clause 8.7.3)
  pub piece_levels : {s : List ℕ} {c : Bool} {o : List ℕ} → Pieces s c o → ℕ
  piece_levels (whole b) = 0
  piece_levels (cut g) = segment_levels g

  -- the most levels of headers in a segment of a string: the segment's own header, and those within it
  pub segment_levels : {s o : List ℕ} → Segments s o → ℕ
  segment_levels no_segment = 0
  segment_levels (segment h p g) = max (suc (piece_levels p)) (segment_levels g)

abbrev mutual
  -- the levels of headers within the contents octets of a BIT STRING, none if it is whole, else those of its segments
  -- (X.690, clause 8.6.4)
  pub bit_piece_levels : {s : List Bool} {c : Bool} {o : List ℕ} → BitPieces s c o → ℕ
  bit_piece_levels (whole_bits w) = 0
  bit_piece_levels (cut_bits g) = bit_segment_levels g

  -- the most levels of headers in a segment of a BIT STRING: the segment's own header, and those within it
  pub bit_segment_levels : {s : List Bool} {o : List ℕ} → BitSegments s o → ℕ
  bit_segment_levels (last_segment h p) = suc (bit_piece_levels p)
  bit_segment_levels (bit_segment h p m g) = max (suc (bit_piece_levels p)) (bit_segment_levels g)

-- the levels of headers within the contents octets of a value that holds no others: only strings in segments have any
abbrev pub leaf_levels : {r : Rules} {k : Kind} {w : AbstractValue} {c : Bool} {x : List ℕ} → Contents r k w c x → ℕ
leaf_levels of_false = 0
leaf_levels (of_true l m e) = 0
leaf_levels (of_integer a) = 0
leaf_levels (of_enumerated a) = 0
leaf_levels (of_bits p e f) = bit_piece_levels p
leaf_levels (of_named_bits p e f t) = bit_piece_levels p
leaf_levels (of_octets p e) = piece_levels p
leaf_levels of_null = 0
leaf_levels (of_oid a) = 0
leaf_levels (of_relative_oid a) = 0
leaf_levels (of_utf8 p e) = piece_levels p
leaf_levels (of_restricted p e) = piece_levels p

-- the levels of headers in k unknown additions, one if there are any, since each counts as its own header alone (own
-- rule)
abbrev pub unknown_levels : {s : List Resolved} {cs : List Component} {e : Bool} {k : ℕ} {us : List (List ℕ)}
    → UnknownIf s cs e k us → ℕ
unknown_levels closed = 0
unknown_levels (extensible no_unknown) = 0
unknown_levels (extensible (unknown x h b f u)) = 1

abbrev mutual
  -- the levels of headers in the octets of an encoding of type t, one for each tag of the type, and those within the
  -- contents (X.690, clause 8.1.1)
  pub levels : {s : List Resolved} {r : Rules} {t n : ℕ} {w : AbstractValue} {o : List ℕ} → EncodesTo s r t w n o → ℕ
  levels (says {tags = tags} i h f) = length tags + inner_levels h

  -- the most levels of headers within the contents octets of a value of kind k
  pub inner_levels : {s : List Resolved} {r : Rules} {k : Kind} {n : ℕ} {w : AbstractValue} {c : Bool} {x : List ℕ}
      → ContentsEncode s r k w n c x → ℕ
  inner_levels (leaf con) = leaf_levels con
  inner_levels (sequence ms u) = max (member_levels ms) (unknown_levels u)
  inner_levels (set ms p st u m) = max (member_levels ms) (unknown_levels u)
  inner_levels (sequence_of es) = element_levels es
  inner_levels (set_of es st) = element_levels es
  inner_levels (choice g a) = levels a

  -- the most levels of headers in the encoding of a component that is present
  pub member_levels : {s : List Resolved} {r : Rules} {cs : List Component} {ws : Row} {n : ℕ} {xs : List (List ℕ)}
      → Members s r cs ws n xs → ℕ
  member_levels no_member = 0
  member_levels (left_out m ms) = member_levels ms
  member_levels (member a d ms) = max (levels a) (member_levels ms)

  -- the most levels of headers in the encoding of an element
  pub element_levels : {s : List Resolved} {r : Rules} {u n : ℕ} {ws : Row} {xs : List (List ℕ)}
      → Elements s r u ws n xs → ℕ
  element_levels no_element = 0
  element_levels (element a es) = max (levels a) (element_levels es)
