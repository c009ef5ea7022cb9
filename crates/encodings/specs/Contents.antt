-- Contents octets of the kinds whose values hold no others (X.690, clauses 8.2 to 8.8, 8.19, 8.20, 8.23, 10.2, 11.1 and
-- 11.2).
use Rattle.std.specs.Prelude.{◌≡◌, ℕ, suc, ◌+◌, ◌*◌, ◌^◌, ◌<◌, ◌≤◌, ℤ, pos, negsuc, Bool, true, false}
use Rattle.std.specs.Prelude.{List, [], ◌∷◌, ◌++◌, length, flat_map, replicate}
use Rattle.std.specs.Int.Digits.{number_from_digits, AllBelowBase}
use Rattle.asn_base.specs.Abstract.{AbstractValue, boolean, integer, enumerated, bits, octets, text, null, oid}
use Rattle.asn_base.specs.Abstract.{relative_oid, bits_of_octet}
use Rattle.asn_base.specs.declared.strings.StringKind.{StringKind}
use Rattle.asn_base.specs.Types.{Constraint, Item, NamedBit, Kind, a_boolean, an_integer, an_enumerated, a_bit_string}
use Rattle.asn_base.specs.Types.{a_named_bit_string, an_octet_string, a_null, an_object_identifier, a_relative_oid}
use Rattle.asn_base.specs.Types.{a_utf8_string, a_restricted_string}
use Rattle.asn_base.specs.Typed.{IsObjectIdentifier, IsRelativeOid}
use Rattle.encodings.specs.Rules.{Rules, Strictly}
use Rattle.encodings.specs.Header.{Octets, septets}
use Rattle.encodings.specs.Strings.{Pieces, BitPieces}

-- the octets, at least one, are number z in two's complement (X.690, clause 8.3.3)
pub data TwosComplement : ℤ → Octets → Type 0 where
  -- the octets are worth n, and the top bit is zero
  not_negative : {n : ℕ} {o : Octets}
      → 1 ≤ length o
      → AllBelowBase 256 o
      → number_from_digits 256 o ≡ n
      → 2 * n < 256 ^ length o
      → TwosComplement (pos n) o
  -- the number is -(n + 1), and the top bit is one
  negative : {n : ℕ} {o : Octets}
      → 1 ≤ length o
      → AllBelowBase 256 o
      → number_from_digits 256 o + suc n ≡ 256 ^ length o
      → 2 * n < 256 ^ length o
      → TwosComplement (negsuc n) o

-- octets o are number z in two's complement, and no shorter ones are (X.690, clauses 8.3.2 and 8.3.3)
pub record Number (z : ℤ) (o : Octets) : Type 0 where
  pub is : TwosComplement z o
  pub shortest : (p : Octets) → TwosComplement z p → length o ≤ length p

-- the last of the bits, if there is one, isn't zero (X.690, clause 11.2.2)
abbrev pub EndsInOne : List Bool → Type 0
EndsInOne s = (t : List Bool) → s ≡ t ++ false ∷ [] → ⊥

-- after their first one, the contents octets hold the bits s, and the last octet is filled with zero bits (X.690,
-- clause 11.2.1)
abbrev pub FilledWithZeros : List Bool → Octets → Type 0
FilledWithZeros s o =
    (n : ℕ) × (octets : Octets) × (o ≡ n ∷ octets) × (flat_map bits_of_octet octets ≡ s ++ replicate n false)

-- the numbers to encode for an object identifier, whose first two numbers x and y are joined into 40 x + y (X.690,
-- clause 8.19.4)
abbrev pub joined : List ℕ → List ℕ
joined (x ∷ y ∷ zs) = (40 * x + y) ∷ zs
joined zs = zs

-- By rules r the contents octets, constructed or not, encode a value of a kind that holds no others (X.690, clauses 8.2
-- to 8.8, 8.19, 8.20 and 8.23). FALSE is 0, and TRUE is any other octet. By the distinguished rules TRUE is 255, and
-- strings are whole. Their unused bits are zeros, and with named bits the last bit isn't zero.
pub data Contents (r : Rules) : Kind → AbstractValue → Bool → Octets → Type 0 where
  of_false : Contents r a_boolean (boolean false) false (0 ∷ [])  -- 8.2.2
  of_true : {x : ℕ}
      → 0 < x  -- 8.2.2
      → x < 256
      → Strictly r (x ≡ 255)  -- 11.1
      → Contents r a_boolean (boolean true) false (x ∷ [])
  of_integer : {c : Constraint} {z : ℤ} {o : Octets}
      → Number z o  -- 8.3
      → Contents r (an_integer c) (integer z) false o
  of_enumerated : {root more : List Item} {e : Bool} {z : ℤ} {o : Octets}
      → Number z o  -- 8.4
      → Contents r (an_enumerated root e more) (enumerated z) false o
  of_bits : {z : Constraint} {c : Bool} {s : List Bool} {o : Octets}
      → BitPieces s c o  -- 8.6
      → Strictly r (c ≡ false)  -- 10.2
      → Strictly r (FilledWithZeros s o)  -- 11.2.1
      → Contents r (a_bit_string z) (bits s) c o
  of_named_bits : {ns : List NamedBit} {c : Bool} {s : List Bool} {o : Octets}
      → BitPieces s c o  -- 8.6
      → Strictly r (c ≡ false)  -- 10.2
      → Strictly r (FilledWithZeros s o)  -- 11.2.1
      → Strictly r (EndsInOne s)  -- 11.2.2
      → Contents r (a_named_bit_string ns) (bits s) c o
  of_octets : {z : Constraint} {c : Bool} {s o : Octets}
      → Pieces s c o  -- 8.7
      → Strictly r (c ≡ false)  -- 10.2
      → Contents r (an_octet_string z) (octets s) c o
  of_null : Contents r a_null null false []  -- 8.8
  of_oid : {ns : List ℕ}
      → IsObjectIdentifier ns  -- 8.19
      → Contents r an_object_identifier (oid ns) false (flat_map septets (joined ns))
  of_relative_oid : {ns : List ℕ}
      → IsRelativeOid ns  -- 8.20
      → Contents r a_relative_oid (relative_oid ns) false (flat_map septets ns)
  of_utf8 : {z : Constraint} {c : Bool} {s o : Octets}
      → Pieces s c o  -- 8.23
      → Strictly r (c ≡ false)  -- 10.2
      → Contents r (a_utf8_string z) (text s) c o
  of_restricted : {k : StringKind} {alphabet : List ℕ} {z : Constraint} {c : Bool} {s o : Octets}
      → Pieces s c o  -- 8.23
      → Strictly r (c ≡ false)  -- 10.2
      → Contents r (a_restricted_string k alphabet z) (text s) c o
