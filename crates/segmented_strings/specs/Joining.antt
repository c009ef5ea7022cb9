-- The values as which constructed contents octets of each kind of string are read, and why they are refused.
use Rattle.std.specs.Prelude.{◌≡◌, ℕ, ◌<◌, ◌≤◌, true, length, string_bytes}
use Rattle.asn_base.specs.Abstract.{AbstractValue, bits, octets, text}
use Rattle.encodings.specs.Header.{Octets}
use Rattle.encodings.specs.Rules.{Basic}
use Rattle.encodings.specs.Contents.{Contents}
use Rattle.encodings.specs.Levels.{leaf_levels}
use Rattle.encodings.specs.declared.leaf_kind.LeafKind.{LeafKind}
use Rattle.encodings.specs.declared.leaf_kind.LeafKind.TheVariants as kinds
use Rattle.encodings.specs.Leaves.{plain}
use Rattle.primitive_reader.specs.Leaves.{Suits, bits_but}
use Rattle.segmented_strings.specs.declared.fault.SegmentError.{SegmentError}
use Rattle.segmented_strings.specs.declared.fault.SegmentError.TheVariants as whys
use Rattle.segmented_strings.specs.declared.read.Reassembled.{Reassembled}
use Rattle.segmented_strings.specs.declared.read.Reassembled.TheVariants as joined
use Rattle.segmented_strings.specs.Within.{OctetsWithin}
use Rattle.segmented_strings.specs.Failing.{OctetsFail, BitsFail}

-- the value that a joined string is
abbrev pub Denotes : Reassembled → AbstractValue → Type 0
Denotes (joined.Bits n o) v = v ≡ bits (bits_but n o.items)
Denotes (joined.Octets o) v = v ≡ octets o.items
Denotes (joined.Text s) v = v ≡ text (string_bytes s)

-- x are constructed contents octets of v by the basic rules, with at most `room` levels of headers in them
pub record IsJoinedAs (k : LeafKind) (v : AbstractValue) (room : ℕ) (x : Octets) : Type 0 where
  pub contents : Contents Basic (plain k) v true x
  pub suits : Suits k v
  pub few : leaf_levels contents ≤ room

-- constructed contents octets x of this kind are those of the value that the joined string is
pub record ReadsContents (k : LeafKind) (room : ℕ) (x : Octets) (j : Reassembled) : Type 0 where
  pub value : AbstractValue
  pub means : Denotes j value
  pub is_joined : IsJoinedAs k value room x

-- fewer than eight bits are unused, and none if there are no octets
abbrev pub HasFewUnused : Reassembled → Type 0
HasFewUnused (joined.Bits n o) = (n < 8) × (length o.items ≡ 0 → n ≡ 0)
HasFewUnused j = Unit {0}

-- what the segments of a kind of string contain
pub data SegmentKind : Type 0 where
  nothing : SegmentKind
  some_bits : SegmentKind
  some_octets : SegmentKind
  some_text : SegmentKind

abbrev pub kind_of : LeafKind → SegmentKind
kind_of kinds.BitString = some_bits
kind_of kinds.NamedBits = some_bits
kind_of kinds.OctetString = some_octets
kind_of kinds.Utf8String = some_text
kind_of (kinds.RestrictedString k) = some_text
kind_of k = nothing

-- constructed contents octets x of this kind fail
pub data Fails (k : LeafKind) (room : ℕ) : SegmentError → ℕ → Octets → Type 0 where
  bits_fail : {i : ℕ} {e : SegmentError} {x : Octets} → kind_of k ≡ some_bits → BitsFail room e i x → Fails k room e i x
  octets_fail : {i : ℕ} {e : SegmentError} {x : Octets} → kind_of k ≡ some_octets → OctetsFail room e i x →
      Fails k room e i x
  text_fails : {i : ℕ} {e : SegmentError} {x : Octets} → kind_of k ≡ some_text → OctetsFail room e i x →
      Fails k room e i x
  -- the joined octets aren't UTF-8, or have a character that the type doesn't have (8.23.5, 8.23.10)
  bad_text : {s x : Octets}
      → kind_of k ≡ some_text
      → OctetsWithin room s x
      → (Suits k (text s) → ⊥)
      → Fails k room whys.BadContents 0 x
  -- the kind has no constructed form
  never_constructed : {x : Octets} → kind_of k ≡ nothing → Fails k room whys.UnexpectedTag 0 x
