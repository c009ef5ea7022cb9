-- Contents octets of each kind are those of one value, or have one fault.
use Rattle.std.proofs.Common.{◌≡◌, ℕ, ◌≤◌, Bool, true, List, ◌++◌, length, refl, sym, ap, subst, ◌∙◌}
use Rattle.asn_base.specs.declared.tag.Tag.{Tag}
use Rattle.asn_base.specs.declared.strings.StringKind.{StringKind}
use Rattle.asn_base.specs.Abstract.{AbstractValue, bits, octets, text}
use Rattle.asn_base.specs.Types.{Constraint, NamedBit, a_bit_string, a_named_bit_string, an_octet_string, a_utf8_string, a_restricted_string}
use Rattle.encodings.specs.Rules.{Basic}
use Rattle.encodings.specs.Header.{Header}
use Rattle.encodings.specs.Strings.{Segments, cut, BitSegments, cut_bits}
use Rattle.encodings.specs.Contents.{Contents, of_bits, of_named_bits, of_octets, of_utf8, of_restricted}
use Rattle.encodings.specs.Levels.{leaf_levels, segment_levels, bit_segment_levels}
use Rattle.encodings.specs.declared.leaf_kind.LeafKind.{LeafKind}
use Rattle.encodings.specs.declared.leaf_kind.LeafKind.TheVariants as kinds
use Rattle.encodings.specs.Leaves.{plain}
use Rattle.primitive_reader.specs.Leaves.{Suits}
use Rattle.octets.specs.Fronts.{HeaderAt, IsRightFault}
use Rattle.octets.specs.declared.header_fault.HeaderFault.{HeaderFault}
use Rattle.segmented_strings.specs.declared.fault.SegmentError.{SegmentError}
use Rattle.segmented_strings.specs.Joining.{IsJoinedAs, SegmentKind, nothing, some_bits, some_octets, some_text, kind_of, Fails, bits_fail, octets_fail, text_fails, bad_text, never_constructed}
use Rattle.segmented_strings.proofs.OneFault.{one_octets, one_bits, octets_either, bits_either, one_octets_fault, one_bits_fault}

-- ---- what constructed contents of a kind hold

record TextIn (v : AbstractValue) (room : ℕ) (x : List ℕ) : Type 0 where
  string : List ℕ
  is : v ≡ text string
  segments : Segments string x
  few : segment_levels segments ≤ room

record OctetsIn (v : AbstractValue) (room : ℕ) (x : List ℕ) : Type 0 where
  string : List ℕ
  is : v ≡ octets string
  segments : Segments string x
  few : segment_levels segments ≤ room

record BitsIn (v : AbstractValue) (room : ℕ) (x : List ℕ) : Type 0 where
  string : List Bool
  is : v ≡ bits string
  segments : BitSegments string x
  few : bit_segment_levels segments ≤ room

of_bit_string : {z : Constraint} {v : AbstractValue} {room : ℕ} {x : List ℕ} (p : Contents Basic (a_bit_string z) v true x) → leaf_levels p ≤ room → BitsIn v room x
of_bit_string (of_bits {s = s} (cut_bits g) e f) l = record { string = s; is = refl; segments = g; few = l }

of_named_bit_string : {ns : List NamedBit} {v : AbstractValue} {room : ℕ} {x : List ℕ} (p : Contents Basic (a_named_bit_string ns) v true x) → leaf_levels p ≤ room → BitsIn v room x
of_named_bit_string (of_named_bits {s = s} (cut_bits g) e f t) l = record { string = s; is = refl; segments = g; few = l }

of_octet_string : {z : Constraint} {v : AbstractValue} {room : ℕ} {x : List ℕ} (p : Contents Basic (an_octet_string z) v true x) → leaf_levels p ≤ room → OctetsIn v room x
of_octet_string (of_octets {s = s} (cut g) e) l = record { string = s; is = refl; segments = g; few = l }

of_utf8_string : {z : Constraint} {v : AbstractValue} {room : ℕ} {x : List ℕ} (p : Contents Basic (a_utf8_string z) v true x) → leaf_levels p ≤ room → TextIn v room x
of_utf8_string (of_utf8 {s = s} (cut g) e) l = record { string = s; is = refl; segments = g; few = l }

of_restricted_string : {k : StringKind} {a : List ℕ} {z : Constraint} {v : AbstractValue} {room : ℕ} {x : List ℕ} (p : Contents Basic (a_restricted_string k a z) v true x) → leaf_levels p ≤ room → TextIn v room x
of_restricted_string (of_restricted {s = s} (cut g) e) l = record { string = s; is = refl; segments = g; few = l }

bits_in : (k : LeafKind) {v : AbstractValue} {room : ℕ} {x : List ℕ} → kind_of k ≡ some_bits → IsJoinedAs k v room x → BitsIn v room x
bits_in kinds.BitString h j = of_bit_string j.contents j.few
bits_in kinds.NamedBits h j = of_named_bit_string j.contents j.few
bits_in q h j = absurd (cc)

octets_in : (k : LeafKind) {v : AbstractValue} {room : ℕ} {x : List ℕ} → kind_of k ≡ some_octets → IsJoinedAs k v room x → OctetsIn v room x
octets_in kinds.OctetString h j = of_octet_string j.contents j.few
octets_in q h j = absurd (cc)

text_in : (k : LeafKind) {v : AbstractValue} {room : ℕ} {x : List ℕ} → kind_of k ≡ some_text → IsJoinedAs k v room x → TextIn v room x
text_in kinds.Utf8String h j = of_utf8_string j.contents j.few
text_in (kinds.RestrictedString q) h j = of_restricted_string j.contents j.few
text_in q h j = absurd (cc)

nothing_in : (k : LeafKind) {v : AbstractValue} {x : List ℕ} → kind_of k ≡ nothing → Contents Basic (plain k) v true x → ⊥
nothing_in kinds.BitString h p = absurd (cc)
nothing_in kinds.NamedBits h p = absurd (cc)
nothing_in kinds.OctetString h p = absurd (cc)
nothing_in kinds.Utf8String h p = absurd (cc)
nothing_in (kinds.RestrictedString q) h p = absurd (cc)
nothing_in q h p = elim p [ ]

module _ (headers : (t u : Tag) (b c : Bool) (n m : ℕ) (h g x y : List ℕ) → Header t b n h → Header u c m g → h ++ x ≡ g ++ y → (t ≡ u) × (b ≡ c) × (n ≡ m) × (h ≡ g) × (x ≡ y)) (one_header : (t u : Tag) (c d : Bool) (n m k j : ℕ) (o : List ℕ) → HeaderAt t c n k o → HeaderAt u d m j o → (t ≡ u) × (c ≡ d) × (n ≡ m) × (k ≡ j)) (one_right_fault : (e f : HeaderFault) (o : List ℕ) → IsRightFault e o → IsRightFault f o → e ≡ f) (neither : (e : HeaderFault) (t : Tag) (c : Bool) (n k : ℕ) (o : List ℕ) → IsRightFault e o → HeaderAt t c n k o → ⊥) where
  by_holding : (k : LeafKind) (v w : AbstractValue) (room : ℕ) (x : List ℕ) (h : SegmentKind) → kind_of k ≡ h → IsJoinedAs k v room x → IsJoinedAs k w room x → v ≡ w
  by_holding k v w room x nothing h a b = absurd (nothing_in k h a.contents)
  by_holding k v w room x some_bits h a b =
      let p = bits_in k h a in
      let q = bits_in k h b in
      p.is ∙ ap bits (one_bits headers one_header one_right_fault neither p.segments x refl q.segments) ∙ sym q.is
  by_holding k v w room x some_octets h a b =
      let p = octets_in k h a in
      let q = octets_in k h b in
      p.is ∙ ap octets (one_octets headers one_header one_right_fault neither p.segments x refl q.segments) ∙ sym q.is
  by_holding k v w room x some_text h a b =
      let p = text_in k h a in
      let q = text_in k h b in
      p.is ∙ ap text (one_octets headers one_header one_right_fault neither p.segments x refl q.segments) ∙ sym q.is

  pub one_value : (k : LeafKind) (v w : AbstractValue) (room : ℕ) (x : List ℕ) → IsJoinedAs k v room x → IsJoinedAs k w room x → v ≡ w
  one_value k v w room x a b = by_holding k v w room x (kind_of k) refl a b

  pub either : (k : LeafKind) (room i : ℕ) (e : SegmentError) (v : AbstractValue) (x : List ℕ) → length x ≤ 16777216 → Fails k room e i x → IsJoinedAs k v room x → ⊥
  either k room i e v x l (bits_fail h f) j = let p = bits_in k h j in bits_either headers one_header one_right_fault neither p.segments p.few x refl l f
  either k room i e v x l (octets_fail h f) j = let p = octets_in k h j in octets_either headers one_header one_right_fault neither p.segments p.few x refl l f
  either k room i e v x l (text_fails h f) j = let p = text_in k h j in octets_either headers one_header one_right_fault neither p.segments p.few x refl l f
  either k room i e v x l (bad_text {s = s} h w n) j =
      let p = text_in k h j in
      n (subst (λ q. Suits k q) (p.is ∙ ap text (one_octets headers one_header one_right_fault neither p.segments x refl w.segments)) j.suits)
  either k room i e v x l (never_constructed h) j = nothing_in k h j.contents

  pub one_fault : (k : LeafKind) (room i j : ℕ) (e f : SegmentError) (x : List ℕ) → length x ≤ 16777216 → Fails k room e i x → Fails k room f j x → (e ≡ f) × (i ≡ j)
  one_fault k room i j e f x l (bits_fail h a) (bits_fail g b) = one_bits_fault headers one_header one_right_fault neither a x refl l b
  one_fault k room i j e f x l (bits_fail h a) (octets_fail g b) = absurd (let z : some_bits ≡ some_octets = sym h ∙ g in cc)
  one_fault k room i j e f x l (bits_fail h a) (text_fails g b) = absurd (let z : some_bits ≡ some_text = sym h ∙ g in cc)
  one_fault k room i j e f x l (bits_fail h a) (bad_text g u m) = absurd (let z : some_bits ≡ some_text = sym h ∙ g in cc)
  one_fault k room i j e f x l (bits_fail h a) (never_constructed g) = absurd (let z : some_bits ≡ nothing = sym h ∙ g in cc)
  one_fault k room i j e f x l (octets_fail h a) (bits_fail g b) = absurd (let z : some_octets ≡ some_bits = sym h ∙ g in cc)
  one_fault k room i j e f x l (octets_fail h a) (octets_fail g b) = one_octets_fault headers one_header one_right_fault neither a x refl l b
  one_fault k room i j e f x l (octets_fail h a) (text_fails g b) = absurd (let z : some_octets ≡ some_text = sym h ∙ g in cc)
  one_fault k room i j e f x l (octets_fail h a) (bad_text g u m) = absurd (let z : some_octets ≡ some_text = sym h ∙ g in cc)
  one_fault k room i j e f x l (octets_fail h a) (never_constructed g) = absurd (let z : some_octets ≡ nothing = sym h ∙ g in cc)
  one_fault k room i j e f x l (text_fails h a) (bits_fail g b) = absurd (let z : some_text ≡ some_bits = sym h ∙ g in cc)
  one_fault k room i j e f x l (text_fails h a) (octets_fail g b) = absurd (let z : some_text ≡ some_octets = sym h ∙ g in cc)
  one_fault k room i j e f x l (text_fails h a) (text_fails g b) = one_octets_fault headers one_header one_right_fault neither a x refl l b
  one_fault k room i j e f x l (text_fails h a) (bad_text g u m) = absurd (octets_either headers one_header one_right_fault neither u.segments u.few x refl l a)
  one_fault k room i j e f x l (text_fails h a) (never_constructed g) = absurd (let z : some_text ≡ nothing = sym h ∙ g in cc)
  one_fault k room i j e f x l (bad_text h w n) (bits_fail g b) = absurd (let z : some_text ≡ some_bits = sym h ∙ g in cc)
  one_fault k room i j e f x l (bad_text h w n) (octets_fail g b) = absurd (let z : some_text ≡ some_octets = sym h ∙ g in cc)
  one_fault k room i j e f x l (bad_text h w n) (text_fails g b) = absurd (octets_either headers one_header one_right_fault neither w.segments w.few x refl l b)
  one_fault k room i j e f x l (bad_text h w n) (bad_text g u m) = (refl, refl)
  one_fault k room i j e f x l (bad_text h w n) (never_constructed g) = absurd (let z : some_text ≡ nothing = sym h ∙ g in cc)
  one_fault k room i j e f x l (never_constructed h) (bits_fail g b) = absurd (let z : nothing ≡ some_bits = sym h ∙ g in cc)
  one_fault k room i j e f x l (never_constructed h) (octets_fail g b) = absurd (let z : nothing ≡ some_octets = sym h ∙ g in cc)
  one_fault k room i j e f x l (never_constructed h) (text_fails g b) = absurd (let z : nothing ≡ some_text = sym h ∙ g in cc)
  one_fault k room i j e f x l (never_constructed h) (bad_text g u m) = absurd (let z : nothing ≡ some_text = sym h ∙ g in cc)
  one_fault k room i j e f x l (never_constructed h) (never_constructed g) = (refl, refl)
