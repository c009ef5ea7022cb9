-- Where segments fail, and why: the first fault.
use Rattle.std.specs.Prelude.{◌≡◌, ℕ, suc, ◌+◌, ◌%◌, ◌≤◌, Bool, true, false, List, [], length}
use Rattle.asn_base.specs.declared.tag.Tag.{Tag}
use Rattle.encodings.specs.Header.{Octets}
use Rattle.encodings.specs.Strings.{octet_string_tag, bit_string_tag, WholeBits}
use Rattle.octets.specs.Fronts.{HeaderAt, IsRightFault}
use Rattle.octets.specs.declared.header_fault.HeaderFault.{HeaderFault}
use Rattle.segmented_strings.specs.declared.fault.SegmentError.{SegmentError}
use Rattle.segmented_strings.specs.declared.fault.SegmentError.TheVariants as whys
use Rattle.segmented_strings.specs.Within.{SegmentAt, PiecesWithin, BitPiecesWithin}

-- octets don't start with a header and its contents, or the header is too deep, or has another tag than a segment's
pub data NoSegment (tag : Tag) (room : ℕ) (o : Octets) : SegmentError → Type 0 where
  no_header : {e : HeaderFault} → 1 ≤ length o → IsRightFault e o → NoSegment tag room o (whys.Header e)
  too_deep : {g : Tag} {c : Bool} {n k : ℕ} → HeaderAt g c n k o → room ≡ 0 → NoSegment tag room o whys.TooDeep
  other_tag : {g : Tag} {c : Bool} {n k : ℕ}
      → HeaderAt g c n k o
      → 1 ≤ room
      → (g ≡ tag → ⊥)
      → NoSegment tag room o whys.UnexpectedTag

-- a place i in the contents of a segment, and a place i in what follows it, counted from the start of the segment's
-- header
abbrev pub within_segment : {g : Tag} {c : Bool} {x rest o : Octets} → SegmentAt g c x rest o → ℕ → ℕ
within_segment u i = length u.header + i

abbrev pub after_segment : {g : Tag} {c : Bool} {x rest o : Octets} → SegmentAt g c x rest o → ℕ → ℕ
after_segment {x = x} u i = length u.header + (length x + i)

-- segments of octets fail with this fault at this place, within `room` levels of headers
pub data OctetsFail : (room : ℕ) → SegmentError → (at : ℕ) → Octets → Type 0 where
  no_octets : {room : ℕ} {e : SegmentError} {o : Octets} → NoSegment octet_string_tag room o e → OctetsFail room e 0 o
  -- in a constructed segment
  in_octets : {room i at : ℕ} {e : SegmentError} {x rest o : Octets} (u : SegmentAt octet_string_tag true x rest o)
      → OctetsFail room e i x
      → at ≡ within_segment u i
      → OctetsFail (suc room) e at o
  -- after a segment
  after_octets : {room i at : ℕ} {e : SegmentError} {s : Octets} {c : Bool} {x rest o : Octets}
      (u : SegmentAt octet_string_tag c x rest o)
      → PiecesWithin room s c x
      → OctetsFail (suc room) e i rest
      → at ≡ after_segment u i
      → OctetsFail (suc room) e at o

-- segments of bits fail with this fault at this place, within `room` levels of headers
pub data BitsFail : (room : ℕ) → SegmentError → (at : ℕ) → Octets → Type 0 where
  no_bits : {room : ℕ} {e : SegmentError} {o : Octets} → NoSegment bit_string_tag room o e → BitsFail room e 0 o
  -- there must be a segment (8.6.4)
  without_segments : {room : ℕ} {o : Octets} → o ≡ [] → BitsFail room whys.EmptySegments 0 o
  -- the contents of a primitive segment are not those of bits (8.6.2)
  bad_bits : {room : ℕ} {x rest o : Octets}
      → SegmentAt bit_string_tag false x rest o
      → ((s : List Bool) → WholeBits s x → ⊥)
      → BitsFail (suc room) whys.BadContents 0 o
  -- a segment with unused bits that isn't the last (8.6.4.2)
  odd_bits : {room : ℕ} {s : List Bool} {c : Bool} {x rest o : Octets}
      → SegmentAt bit_string_tag c x rest o
      → BitPiecesWithin room s c x
      → (length s % 8 ≡ 0 → ⊥)
      → 1 ≤ length rest
      → BitsFail (suc room) whys.BadContents 0 o
  in_bits : {room i at : ℕ} {e : SegmentError} {x rest o : Octets} (u : SegmentAt bit_string_tag true x rest o)
      → BitsFail room e i x
      → at ≡ within_segment u i
      → BitsFail (suc room) e at o
  after_bits : {room i at : ℕ} {e : SegmentError} {s : List Bool} {c : Bool} {x rest o : Octets}
      (u : SegmentAt bit_string_tag c x rest o)
      → BitPiecesWithin room s c x
      → length s % 8 ≡ 0
      → 1 ≤ length rest
      → BitsFail (suc room) e i rest
      → at ≡ after_segment u i
      → BitsFail (suc room) e at o
