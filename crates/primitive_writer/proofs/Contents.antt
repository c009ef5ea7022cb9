-- What has contents of a kind, and what has none.
use Rattle.std.proofs.Common.{◌≡◌, ℕ, ℤ, Bool, true, false, List, [], refl, sym, subst}
use Rattle.std.specs.Int.Digits.{AllBelowBase}
use Rattle.std.specs.Prelude.{flat_map, IfSome, MatchOption, Option}
use Rattle.asn_base.specs.declared.strings.StringKind.{StringKind}
use Rattle.asn_base.specs.Abstract.{AbstractValue, boolean, integer, enumerated, bits, octets, text, null, oid, relative_oid}
use Rattle.asn_base.specs.Types.{any_number, any_size, a_boolean, an_integer, an_enumerated, a_bit_string, a_named_bit_string, an_octet_string, a_null, an_object_identifier, a_relative_oid, a_utf8_string, a_restricted_string}
use Rattle.asn_base.specs.Typed.{IsObjectIdentifier, IsRelativeOid}
use Rattle.asn_base.specs.Same.{AlikeBy, equal, zeros}
use Rattle.encodings.specs.Header.{septets}
use Rattle.encodings.specs.Rules.{Distinguished}
use Rattle.encodings.specs.Strings.{whole, whole_bits}
use Rattle.encodings.specs.Contents.{Contents, Number, joined, of_false, of_true, of_integer, of_enumerated, of_bits, of_named_bits, of_octets, of_null, of_oid, of_relative_oid, of_utf8, of_restricted}
use Rattle.encodings.specs.declared.leaf_kind.LeafKind.{LeafKind}
use Rattle.encodings.specs.declared.leaf_kind.LeafKind.TheVariants as leaves
use Rattle.encodings.specs.Leaves.{HasContents}
use Rattle.primitive_writer.specs.Ends.{FilledPieces, TrimmedPieces}
use Rattle.primitive_writer.specs.Held.{HasNone}
use Rattle.primitive_writer.specs.Pieces.{joined_pieces, short_octets}
use Rattle.primitive_writer.specs.declared.short.ShortContents.{ShortContents}
use Rattle.primitive_writer.specs.declared.leaf.PrimitiveContents.{PrimitiveContents}

moved : {k : LeafKind} {v w : AbstractValue} {x y : List ℕ} → v ≡ w → y ≡ x → HasContents k w x → HasContents k v y
moved {k} {v} {w} {x} {y} e f h = subst (λ q. HasContents k q y) (sym e) (subst (λ q. HasContents k w q) (sym f) h)

pub has_boolean : {v : AbstractValue} {b : Bool} {x y : List ℕ} → v ≡ boolean b → y ≡ x → Contents Distinguished a_boolean (boolean b) false x → HasContents leaves.Boolean v y
has_boolean {b = b} e f c = moved e f (record { trimmed = boolean b; same = equal tt; contents = c })

pub has_integer : {v : AbstractValue} {z : ℤ} {x : List ℕ} → v ≡ integer z → Number z x → HasContents leaves.Integer v x
has_integer {z = z} e c = moved e refl (record { trimmed = integer z; same = equal tt; contents = of_integer c })

pub has_enumerated : {v : AbstractValue} {z : ℤ} {x : List ℕ} → v ≡ enumerated z → Number z x → HasContents leaves.Enumerated v x
has_enumerated {z = z} e c = moved e refl (record { trimmed = enumerated z; same = equal tt; contents = of_enumerated c })

pub has_bits : {v : AbstractValue} {s : List Bool} {x : List ℕ} → v ≡ bits s → FilledPieces s x → HasContents leaves.BitString v x
has_bits {s = s} e p = moved e refl (record { trimmed = bits s; same = equal tt; contents = of_bits (whole_bits p.whole) refl p.filled })

pub has_named_bits : {v : AbstractValue} {s : List Bool} {x : List ℕ} → v ≡ bits s → TrimmedPieces s x → HasContents leaves.NamedBits v x
has_named_bits e t = moved e refl (record { trimmed = bits t.bits; same = zeros t.more t.zeros t.same; contents = of_named_bits (whole_bits t.pieces.whole) refl t.pieces.filled t.ends })

pub has_octets : {v : AbstractValue} {s x : List ℕ} → v ≡ octets s → x ≡ s → AllBelowBase 256 s → HasContents leaves.OctetString v x
has_octets {s = s} e f a = moved e f (record { trimmed = octets s; same = equal tt; contents = of_octets (whole a) refl })

pub has_null : {v : AbstractValue} {x : List ℕ} → v ≡ null → x ≡ [] → HasContents leaves.Null v x
has_null e f = moved e f (record { trimmed = null; same = equal tt; contents = of_null })

pub has_oid : {v : AbstractValue} {ns x : List ℕ} → v ≡ oid ns → x ≡ flat_map septets (joined ns) → IsObjectIdentifier ns → HasContents leaves.ObjectIdentifier v x
has_oid {ns = ns} e f a = moved e f (record { trimmed = oid ns; same = equal tt; contents = of_oid a })

pub has_relative_oid : {v : AbstractValue} {ns x : List ℕ} → v ≡ relative_oid ns → x ≡ flat_map septets ns → IsRelativeOid ns → HasContents leaves.RelativeOid v x
has_relative_oid {ns = ns} e f a = moved e f (record { trimmed = relative_oid ns; same = equal tt; contents = of_relative_oid a })

pub has_utf8 : {v : AbstractValue} {s x : List ℕ} → v ≡ text s → x ≡ s → AllBelowBase 256 s → HasContents leaves.Utf8String v x
has_utf8 {s = s} e f a = moved e f (record { trimmed = text s; same = equal tt; contents = of_utf8 (whole a) refl })

pub has_restricted : {k : StringKind} {v : AbstractValue} {s x : List ℕ} → v ≡ text s → x ≡ s → AllBelowBase 256 s → HasContents (leaves.RestrictedString k) v x
has_restricted {s = s} e f a = moved e f (record { trimmed = text s; same = equal tt; contents = of_restricted (whole a) refl })

-- ---- of which kind a value is that has contents

boolean_in : {v w : AbstractValue} {x : List ℕ} → AlikeBy [] a_boolean v w → Contents Distinguished a_boolean w false x → (b : Bool) × (v ≡ boolean b)
boolean_in (equal l) of_false = (false, refl)
boolean_in (equal l) (of_true a b c) = (true, refl)

pub is_boolean : {v : AbstractValue} {x : List ℕ} → HasContents leaves.Boolean v x → (b : Bool) × (v ≡ boolean b)
is_boolean h = boolean_in h.same h.contents

integer_in : {v w : AbstractValue} {x : List ℕ} → AlikeBy [] (an_integer any_number) v w → Contents Distinguished (an_integer any_number) w false x → (z : ℤ) × (v ≡ integer z)
integer_in (equal l) (of_integer {z = z} a) = (z, refl)

pub is_integer : {v : AbstractValue} {x : List ℕ} → HasContents leaves.Integer v x → (z : ℤ) × (v ≡ integer z)
is_integer h = integer_in h.same h.contents

enumerated_in : {v w : AbstractValue} {x : List ℕ} → AlikeBy [] (an_enumerated [] false []) v w → Contents Distinguished (an_enumerated [] false []) w false x → (z : ℤ) × (v ≡ enumerated z)
enumerated_in (equal l) (of_enumerated {z = z} a) = (z, refl)

pub is_enumerated : {v : AbstractValue} {x : List ℕ} → HasContents leaves.Enumerated v x → (z : ℤ) × (v ≡ enumerated z)
is_enumerated h = enumerated_in h.same h.contents

bits_in : {v w : AbstractValue} {x : List ℕ} → AlikeBy [] (a_bit_string any_size) v w → Contents Distinguished (a_bit_string any_size) w false x → (s : List Bool) × (v ≡ bits s)
bits_in (equal l) (of_bits {s = s} a b c) = (s, refl)

pub is_bits : {v : AbstractValue} {x : List ℕ} → HasContents leaves.BitString v x → (s : List Bool) × (v ≡ bits s)
is_bits h = bits_in h.same h.contents

named_in : {v w : AbstractValue} {x : List ℕ} → AlikeBy [] (a_named_bit_string []) v w → Contents Distinguished (a_named_bit_string []) w false x → (s : List Bool) × (v ≡ bits s)
named_in (equal l) (of_named_bits {s = s} a b c d) = (s, refl)
named_in (zeros {a = s} m n e) c = (s, refl)

pub is_named_bits : {v : AbstractValue} {x : List ℕ} → HasContents leaves.NamedBits v x → (s : List Bool) × (v ≡ bits s)
is_named_bits h = named_in h.same h.contents

octets_in : {v w : AbstractValue} {x : List ℕ} → AlikeBy [] (an_octet_string any_size) v w → Contents Distinguished (an_octet_string any_size) w false x → (s : List ℕ) × (v ≡ octets s)
octets_in (equal l) (of_octets {s = s} a b) = (s, refl)

pub is_octets : {v : AbstractValue} {x : List ℕ} → HasContents leaves.OctetString v x → (s : List ℕ) × (v ≡ octets s)
is_octets h = octets_in h.same h.contents

null_in : {v w : AbstractValue} {x : List ℕ} → AlikeBy [] a_null v w → Contents Distinguished a_null w false x → v ≡ null
null_in (equal l) of_null = refl

pub is_null : {v : AbstractValue} {x : List ℕ} → HasContents leaves.Null v x → v ≡ null
is_null h = null_in h.same h.contents

oid_in : {v w : AbstractValue} {x : List ℕ} → AlikeBy [] an_object_identifier v w → Contents Distinguished an_object_identifier w false x → (ns : List ℕ) × (v ≡ oid ns) × IsObjectIdentifier ns
oid_in (equal l) (of_oid {ns = ns} a) = (ns, refl, a)

pub is_oid : {v : AbstractValue} {x : List ℕ} → HasContents leaves.ObjectIdentifier v x → (ns : List ℕ) × (v ≡ oid ns) × IsObjectIdentifier ns
is_oid h = oid_in h.same h.contents

relative_in : {v w : AbstractValue} {x : List ℕ} → AlikeBy [] a_relative_oid v w → Contents Distinguished a_relative_oid w false x → (ns : List ℕ) × (v ≡ relative_oid ns) × IsRelativeOid ns
relative_in (equal l) (of_relative_oid {ns = ns} a) = (ns, refl, a)

pub is_relative : {v : AbstractValue} {x : List ℕ} → HasContents leaves.RelativeOid v x → (ns : List ℕ) × (v ≡ relative_oid ns) × IsRelativeOid ns
is_relative h = relative_in h.same h.contents

utf8_in : {v w : AbstractValue} {x : List ℕ} → AlikeBy [] (a_utf8_string any_size) v w → Contents Distinguished (a_utf8_string any_size) w false x → (s : List ℕ) × (v ≡ text s)
utf8_in (equal l) (of_utf8 {s = s} a b) = (s, refl)

pub is_utf8 : {v : AbstractValue} {x : List ℕ} → HasContents leaves.Utf8String v x → (s : List ℕ) × (v ≡ text s)
is_utf8 h = utf8_in h.same h.contents

restricted_in : {k : StringKind} {v w : AbstractValue} {x : List ℕ} → AlikeBy [] (a_restricted_string k [] any_size) v w → Contents Distinguished (a_restricted_string k [] any_size) w false x → (s : List ℕ) × (v ≡ text s)
restricted_in (equal l) (of_restricted {s = s} a b) = (s, refl)

pub is_restricted : {k : StringKind} {v : AbstractValue} {x : List ℕ} → HasContents (leaves.RestrictedString k) v x → (s : List ℕ) × (v ≡ text s)
is_restricted h = restricted_in h.same h.contents

-- the same of a kind that is known
pub given : {k m : LeafKind} (v : AbstractValue) (r : Option PrimitiveContents) → k ≡ m → MatchOption r (HasNone m v) (λ l. HasContents m v (joined_pieces l)) → MatchOption r (HasNone k v) (λ l. HasContents k v (joined_pieces l))
given v r e h = subst (λ q. MatchOption r (HasNone q v) (λ l. HasContents q v (joined_pieces l))) (sym e) h

pub short_given : {k l : LeafKind} (v : AbstractValue) (r : Option ShortContents) → k ≡ l → IfSome r (λ o. HasContents l v (short_octets o)) → IfSome r (λ o. HasContents k v (short_octets o))
short_given v r e h = subst (λ q. IfSome r (λ o. HasContents q v (short_octets o))) (sym e) h
