-- What values of the kinds that hold no others are.
use Rattle.std.proofs.Common.{◌≡◌, ℕ, ℤ, Bool, List, ◌++◌, refl, length}
use Rattle.asn_base.specs.declared.strings.StringKind.{StringKind}
use Rattle.asn_base.specs.Abstract.{AbstractValue, boolean, integer, enumerated, bits, octets, text, null, oid, relative_oid}
use Rattle.asn_base.specs.Types.{Constraint, Item, NamedBit, a_boolean, an_integer, an_enumerated, a_bit_string, a_named_bit_string, an_octet_string, a_null, an_object_identifier, a_relative_oid, a_utf8_string, a_restricted_string}
use Rattle.asn_base.specs.Typed.{IsPrimitive, fits_boolean, fits_integer, fits_enumerated, fits_bits, fits_named_bits, fits_octets, fits_null, fits_oid, fits_relative_oid, fits_utf8, fits_restricted, IsAllowed, IsAllowedSize, HasNumber, IsObjectIdentifier, IsRelativeOid}

pub is_boolean : {v : AbstractValue} → IsPrimitive a_boolean v → (b : Bool) × (v ≡ boolean b)
is_boolean (fits_boolean {b = b}) = (b, refl)

pub is_integer : {c : Constraint} {v : AbstractValue} → IsPrimitive (an_integer c) v → (z : ℤ) × (v ≡ integer z)
is_integer (fits_integer {z = z} l a) = (z, refl)

pub integer_allowed : {c : Constraint} {z : ℤ} → IsPrimitive (an_integer c) (integer z) → IsAllowed c z
integer_allowed (fits_integer l a) = a

pub is_enumerated : {root more : List Item} {e : Bool} {v : AbstractValue} → IsPrimitive (an_enumerated root e more) v → (z : ℤ) × (v ≡ enumerated z)
is_enumerated (fits_enumerated {z = z} l h) = (z, refl)

pub item_there : {root more : List Item} {e : Bool} {z : ℤ} → IsPrimitive (an_enumerated root e more) (enumerated z) → HasNumber (root ++ more) z
item_there (fits_enumerated l h) = h

pub is_bits : {c : Constraint} {v : AbstractValue} → IsPrimitive (a_bit_string c) v → (b : List Bool) × (v ≡ bits b)
is_bits (fits_bits {s = s} a) = (s, refl)

pub bits_allowed : {c : Constraint} {s : List Bool} → IsPrimitive (a_bit_string c) (bits s) → IsAllowedSize c (length s)
bits_allowed (fits_bits a) = a

pub is_named_bits : {ns : List NamedBit} {v : AbstractValue} → IsPrimitive (a_named_bit_string ns) v → (b : List Bool) × (v ≡ bits b)
is_named_bits (fits_named_bits {s = s}) = (s, refl)

pub is_octets : {c : Constraint} {v : AbstractValue} → IsPrimitive (an_octet_string c) v → (o : List ℕ) × (v ≡ octets o)
is_octets (fits_octets {o = o} b a) = (o, refl)

pub octets_allowed : {c : Constraint} {o : List ℕ} → IsPrimitive (an_octet_string c) (octets o) → IsAllowedSize c (length o)
octets_allowed (fits_octets b a) = a

pub is_null : {v : AbstractValue} → IsPrimitive a_null v → v ≡ null
is_null fits_null = refl

pub is_oid : {v : AbstractValue} → IsPrimitive an_object_identifier v → (ns : List ℕ) × (v ≡ oid ns) × IsObjectIdentifier ns
is_oid (fits_oid {ns = ns} a) = (ns, refl, a)

pub is_relative_oid : {v : AbstractValue} → IsPrimitive a_relative_oid v → (ns : List ℕ) × (v ≡ relative_oid ns) × IsRelativeOid ns
is_relative_oid (fits_relative_oid {ns = ns} a) = (ns, refl, a)

pub is_utf8 : {c : Constraint} {v : AbstractValue} → IsPrimitive (a_utf8_string c) v → (o : List ℕ) × (v ≡ text o)
is_utf8 (fits_utf8 {o = o} u a) = (o, refl)

pub is_text : {k : StringKind} {codes : List ℕ} {c : Constraint} {v : AbstractValue} → IsPrimitive (a_restricted_string k codes c) v → (o : List ℕ) × (v ≡ text o)
is_text (fits_restricted {o = o} m a) = (o, refl)

pub text_allowed : {k : StringKind} {codes : List ℕ} {c : Constraint} {o : List ℕ} → IsPrimitive (a_restricted_string k codes c) (text o) → IsAllowedSize c (length o)
text_allowed (fits_restricted m a) = a
