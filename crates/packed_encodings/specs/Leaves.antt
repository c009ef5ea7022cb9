-- Values, in bits, of the kinds that hold no others (X.691, clauses 12 to 14, 16 to 18, 24, 25 and 30).
use Rattle.std.specs.Prelude.{◌≡◌, ℕ, ◌-◌, ◌^◌, ◌<◌, ℤ, Bool, true, false, List, [], ◌∷◌, ◌++◌, length, map, flat_map}
use Rattle.std.specs.Prelude.{Some, slice_get}
use Rattle.std.specs.List.{AllByRecursion}
use Rattle.std.specs.Int.Digits.{AllBelowBase}
use Rattle.asn_base.specs.Abstract.{AbstractValue, boolean, integer, enumerated, bits, octets, text, null, oid}
use Rattle.asn_base.specs.Abstract.{relative_oid}
use Rattle.asn_base.specs.declared.strings.StringKind.{StringKind}
use Rattle.asn_base.specs.Names.{IsMember}
use Rattle.asn_base.specs.Types.{Constraint, Item, NamedBit, Kind, a_boolean, an_integer, an_enumerated, a_bit_string}
use Rattle.asn_base.specs.Types.{a_named_bit_string, an_octet_string, a_null, an_object_identifier, a_relative_oid}
use Rattle.asn_base.specs.Types.{a_utf8_string, a_restricted_string}
use Rattle.asn_base.specs.Typed.{IsObjectIdentifier, IsRelativeOid}
use Rattle.bits.specs.Words.{low_bits}
use Rattle.encodings.specs.Contents.{EndsInOne, joined}
use Rattle.encodings.specs.Header.{Octets, septets}
use Rattle.packed_encodings.specs.Lengths.{Bits, Items, fewest_bits, Counted, Sized, CountedOctets}
use Rattle.packed_encodings.specs.Numbers.{Integer}

-- how many bits the place of one of n items takes (X.691, clause 11.5.6)
abbrev pub place_width : ℕ → ℕ
place_width n = fewest_bits (n - 1)

-- the bits of place i, from 0, among n items (X.691, clause 11.5.6)
abbrev pub place_bits : ℕ → ℕ → Bits
place_bits n i = low_bits (place_width n) i

-- the bit 0 before a value of the root of an extensible type, which the flag says, and no bit for another type
abbrev pub root_bit : Bool → Bits
root_bit false = []
root_bit true = false ∷ []

-- The bits are the place of the item with this number, among those of the root, or among those after the marker (X.691,
-- clause 14).
pub data ItemBits (root : List Item) (e : Bool) (more : List Item) : ℤ → Bits → Type 0 where
  root_item : {z : ℤ} (i : ℕ) (x : Item)
      → slice_get root i ≡ Some x
      → x.number ≡ z
      → ItemBits root e more z (root_bit e ++ place_bits (length root) i)  -- 14.1, 14.2
  added_item : {z : ℤ} (i : ℕ) (x : Item)
      → e ≡ true
      → slice_get more i ≡ Some x
      → x.number ≡ z
      → i < 64
      → ItemBits root e more z (true ∷ (false ∷ low_bits 6 i))  -- 14.3, 11.6.1

-- each code of the alphabet fits in as many bits as a place in the alphabet takes (X.691, clause 30.5.4)
abbrev pub CodesFit : List ℕ → Type 0
CodesFit a = AllByRecursion (λ c. c < 2 ^ place_width (length a)) a

-- the bits are the code of this character of alphabet a, if all codes fit, else its place in the alphabet (X.691,
-- clause 30.5.4)
pub data Character (a : List ℕ) : ℕ → Bits → Type 0 where
  by_code : {c : ℕ}
      → CodesFit a
      → IsMember c a
      → Character a c (place_bits (length a) c)  -- 30.5.4
  by_place : {c : ℕ} (i : ℕ)
      → (CodesFit a → ⊥)
      → slice_get a i ≡ Some c
      → Character a c (place_bits (length a) i)  -- 30.5.4

-- the items are the bits of these characters of alphabet a, one item for each
pub data Characters (a : List ℕ) : List ℕ → Items → Type 0 where
  no_character : Characters a [] []
  character : {c : ℕ} {cs : List ℕ} {x : Bits} {xs : Items}
      → Character a c x
      → Characters a cs xs
      → Characters a (c ∷ cs) (x ∷ xs)

-- an item of one bit for each bit
abbrev pub singly : Bits → Items
singly = map (λ b. b ∷ [])

-- The bits are those of a value of this kind, which holds no others (X.691, clauses 12 to 14, 16 to 18, 24, 25 and 30).
-- A value with named bits has no trailing zero bit (16.2).
pub data LeafPer : Kind → AbstractValue → Bits → Type 0 where
  of_boolean : {b : Bool} → LeafPer a_boolean (boolean b) (b ∷ [])  -- 12.1
  of_integer : {c : Constraint} {z : ℤ} {b : Bits}
      → Integer c.visible z b  -- 13
      → LeafPer (an_integer c) (integer z) b
  of_enumerated : {root more : List Item} {e : Bool} {z : ℤ} {b : Bits}
      → ItemBits root e more z b  -- 14
      → LeafPer (an_enumerated root e more) (enumerated z) b
  of_bits : {c : Constraint} {v b : Bits}
      → Sized c.visible (singly v) b  -- 16.6 to 16.11
      → LeafPer (a_bit_string c) (bits v) b
  of_named_bits : {ns : List NamedBit} {v b : Bits}
      → EndsInOne v  -- 16.2
      → Counted (singly v) b  -- 16.11
      → LeafPer (a_named_bit_string ns) (bits v) b
  of_octets : {c : Constraint} {o : Octets} {b : Bits}
      → AllBelowBase 256 o
      → Sized c.visible (map (low_bits 8) o) b  -- 17.3 to 17.8
      → LeafPer (an_octet_string c) (octets o) b
  of_null : LeafPer a_null null []  -- 18
  of_oid : {ns : List ℕ} {b : Bits}
      → IsObjectIdentifier ns
      → CountedOctets (flat_map septets (joined ns)) b  -- 24
      → LeafPer an_object_identifier (oid ns) b
  of_relative_oid : {ns : List ℕ} {b : Bits}
      → IsRelativeOid ns
      → CountedOctets (flat_map septets ns) b  -- 25
      → LeafPer a_relative_oid (relative_oid ns) b
  -- the SIZE of a UTF8String makes no difference to the bits
  of_utf8 : {c : Constraint} {o : Octets} {b : Bits}
      → CountedOctets o b  -- 30.6
      → LeafPer (a_utf8_string c) (text o) b
  of_restricted : {k : StringKind} {a : List ℕ} {c : Constraint} {o : Octets} {xs : Items} {b : Bits}
      → Characters a o xs
      → Sized c.visible xs b  -- 30.5
      → LeafPer (a_restricted_string k a c) (text o) b
