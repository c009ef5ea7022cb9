-- Contents octets of strings, whole or in segments (X.690, clauses 8.6, 8.7 and 8.23).
use Rattle.std.specs.Prelude.{◌≡◌, ℕ, ◌%◌, ◌<◌, Bool, true, false, List, [], ◌∷◌, ◌++◌, length, flat_map}
use Rattle.std.specs.Int.Digits.{AllBelowBase}
use Rattle.std.proofs.Common.{lit<}
use Rattle.asn_base.specs.declared.tag.Class.TheVariants.{Universal}
use Rattle.asn_base.specs.declared.tag.Tag.{Tag}
use Rattle.asn_base.specs.Abstract.{bits_of_octet}
use Rattle.encodings.specs.Header.{Octets, Header}

-- the tag of BIT STRING, universal number 3 (X.680, clause 8), which each segment of a BIT STRING has (X.690, clause
-- 8.6.4)
abbrev pub bit_string_tag : Tag
bit_string_tag = record { class = Universal; number = 3; in_range = lit< tt; not_reserved = λ e. lit< tt }

-- the tag of OCTET STRING, universal number 4 (X.680, clause 8), which each segment of any other string has (X.690,
-- clause 8.7.3.2)
abbrev pub octet_string_tag : Tag
octet_string_tag = record { class = Universal; number = 4; in_range = lit< tt; not_reserved = λ e. lit< tt }

mutual
  -- the contents octets, constructed or not, hold the string octets s, whole or in segments (X.690, clause 8.7)
  pub data Pieces : Octets → Bool → Octets → Type 0 where
    whole : {s : Octets} → AllBelowBase 256 s → Pieces s false s  -- 8.7.2
    cut : {s o : Octets} → Segments s o → Pieces s true o  -- 8.7.3

  -- The octets are any number of segments that hold the string octets s, each with the tag of OCTET STRING (X.690,
  -- clause 8.7.3). A segment may be constructed again.
  pub data Segments : Octets → Octets → Type 0 where
    no_segment : Segments [] []
    segment : {c : Bool} {h x p s o : Octets}
        → Header octet_string_tag c (length p) h  -- 8.7.3.2
        → Pieces x c p
        → Segments s o
        → Segments (x ++ s) (h ++ p ++ o)

-- Contents octets o hold the string bits s, after the number of unused bits in the last octet (X.690, clause 8.6.2).
-- The unused bits may have any value (8.6.2.1).
pub record WholeBits (s : List Bool) (o : Octets) : Type 0 where
  pub unused : ℕ
  pub octets : Octets
  -- the unused bits
  pub filling : List Bool
  pub few : unused < 8  -- 8.6.2.2
  pub are_octets : AllBelowBase 256 octets
  pub is : o ≡ unused ∷ octets
  pub bits : flat_map bits_of_octet octets ≡ s ++ filling
  pub as_many : length filling ≡ unused

mutual
  -- The contents octets, constructed or not, hold the string bits s, whole or in segments (X.690, clause 8.6), of which
  -- there is at least one (own rule).
  pub data BitPieces : List Bool → Bool → Octets → Type 0 where
    whole_bits : {s : List Bool} {o : Octets} → WholeBits s o → BitPieces s false o  -- 8.6.2
    cut_bits : {s : List Bool} {o : Octets} → BitSegments s o → BitPieces s true o  -- 8.6.4

  -- the octets are segments that hold the string bits s, each of which except the last has a multiple of eight bits, at
  -- every level (X.690, clause 8.6.4)
  pub data BitSegments : List Bool → Octets → Type 0 where
    last_segment : {c : Bool} {h p : Octets} {s : List Bool}
        → Header bit_string_tag c (length p) h
        → BitPieces s c p
        → BitSegments s (h ++ p)
    bit_segment : {c : Bool} {h p o : Octets} {x s : List Bool}
        → Header bit_string_tag c (length p) h
        → BitPieces x c p
        → length x % 8 ≡ 0  -- 8.6.4.2
        → BitSegments s o
        → BitSegments (x ++ s) (h ++ p ++ o)
