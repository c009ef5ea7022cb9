-- Contents of leaves say one value.
use Rattle.std.proofs.Common.{arith, ◌≡◌, ℕ, ◌*◌, ◌≤◌, ◌^◌, ℤ, pos, negsuc, Bool, List, [], ◌∷◌, ◌++◌, length, refl, sym, ap, ◌∙◌, append_assoc, length-append}
use Rattle.std.specs.Prelude.{flat_map}
use Rattle.std.proofs.Math.Nat.{pow-suc}
use Rattle.std.specs.Int.Digits.{number_from_digits}
use Rattle.asn_base.specs.declared.tag.Tag.{Tag}
use Rattle.asn_base.specs.Abstract.{AbstractValue, integer, enumerated, bits, octets, text, oid, relative_oid, bits_of_octet}
use Rattle.asn_base.specs.Types.{Kind}
use Rattle.encodings.specs.Rules.{Rules}
use Rattle.encodings.specs.Header.{identifier, Header, LengthOf, short, long}
use Rattle.encodings.specs.Strings.{Pieces, whole, cut, Segments, no_segment, segment, WholeBits, BitPieces, whole_bits, cut_bits, BitSegments, last_segment, bit_segment, octet_string_tag, bit_string_tag}
use Rattle.encodings.specs.Contents.{TwosComplement, not_negative, negative, joined, Contents, of_false, of_true, of_integer, of_enumerated, of_bits, of_named_bits, of_octets, of_null, of_oid, of_relative_oid, of_utf8, of_restricted}
use Rattle.encodings.specs.proving.Fronts.{split_front}
use Rattle.encodings.proofs.Identifiers.{any_front}
use Rattle.encodings.proofs.BitLaws.{bits_front}
use Rattle.encodings.specs.proving.Marked.{septet_lists, arcs_value}

-- a header has an octet
size_some : {n : ℕ} {o : List ℕ} → LengthOf n o → 1 ≤ length o
size_some (short h) = omega arith
size_some (long f) = omega arith

pub header_some : {t : Tag} {c : Bool} {n : ℕ} {h : List ℕ} → Header t c n h → 1 ≤ length h
header_some {t} {c} a = let l = ap length a.whole in omega (arith, l, length-append (identifier t.class t.number c) a.size, size_some a.is_size)

abbrev head_or_0 : List ℕ → ℕ
head_or_0 [] = 0
head_or_0 (x ∷ xs) = x

even_power : (o : List ℕ) → 1 ≤ length o → (m : ℕ) × (256 ^ length o ≡ 2 * m)
even_power [] l = absurd (omega arith)
even_power (x ∷ o) l = (128 * 256 ^ length o, omega (arith, pow-suc 256 (length o)))

-- octets are one number in two's complement
twos_value : {z y : ℤ} {o p : List ℕ} → TwosComplement z o → TwosComplement y p → o ≡ p → z ≡ y
twos_value (not_negative l b e h) (not_negative m c f i) s = ap pos (sym e ∙ ap (number_from_digits 256) s ∙ f)
twos_value {o = o} {p = p} (not_negative l b e h) (negative m c f i) s =
    absurd (let n = ap (number_from_digits 256) s in let w = ap (λ q. 256 ^ length q) s in let v = even_power o l in let v' = v.1 in omega arith)
twos_value {o = o} {p = p} (negative l b e h) (not_negative m c f i) s =
    absurd (let n = ap (number_from_digits 256) s in let w = ap (λ q. 256 ^ length q) s in let v = even_power o l in let v' = v.1 in omega arith)
twos_value {o = o} {p = p} (negative l b e h) (negative m c f i) s =
    let n = ap (number_from_digits 256) s in let w = ap (λ q. 256 ^ length q) s in ap negsuc (omega arith)

-- one header and its contents at the front of octets are determined
pub record SamePiece (c d : Bool) (p q x y : List ℕ) : Type 0 where
  pub forms : c ≡ d
  pub inside : p ≡ q
  pub rest : x ≡ y

pub piece_front : (t : Tag) (c d : Bool) (h g p q x y : List ℕ) → Header t c (length p) h → Header t d (length q) g → h ++ p ++ x ≡ g ++ q ++ y → SamePiece c d p q x y
piece_front t c d h g p q x y a b e =
    let f : h ++ (p ++ x) ≡ g ++ (q ++ y) = sym (append_assoc h p x) ∙ e ∙ append_assoc g q y in
    let r = any_front t t c d (length p) (length q) h g (p ++ x) (q ++ y) a b f in
    let u = split_front p q x y r.counts r.rest in
    record { forms = r.forms; inside = u.0; rest = u.1 }

pub nil_right : (l : List ℕ) → l ++ [] ≡ l
nil_right [] = refl
nil_right (c ∷ l) = ap (λ q. c ∷ q) (nil_right l)

pub not_empty : (h p x : List ℕ) → 1 ≤ length h → h ++ p ++ x ≡ [] → ⊥
not_empty [] p x l e = omega arith
not_empty (c ∷ h) p x l e = let f = ap length e in omega arith

mutual
  -- pieces hold one string
  pub pieces_value : {s u : List ℕ} {c d : Bool} {o p : List ℕ} → Pieces s c o → Pieces u d p → c ≡ d → o ≡ p → s ≡ u
  pieces_value (whole b) (whole b') f e = e
  pieces_value (whole b) (cut g) f e = absurd (cc)
  pieces_value (cut g) (whole b) f e = absurd (cc)
  pieces_value (cut g) (cut g') f e = segments_value g g' e

  segments_value : {s u : List ℕ} {o p : List ℕ} → Segments s o → Segments u p → o ≡ p → s ≡ u
  segments_value no_segment no_segment e = refl
  segments_value no_segment (segment {h = h} {p = p} {o = o} hd ps gs) e = absurd (not_empty h p o (header_some hd) (sym e))
  segments_value (segment {h = h} {p = p} {o = o} hd ps gs) no_segment e = absurd (not_empty h p o (header_some hd) e)
  segments_value (segment {c = c} {h = h} {x = x} {p = p} {s = s} {o = o} hd ps gs) (segment {c = d} {h = h'} {x = x'} {p = p'} {s = s'} {o = o'} hd' ps' gs') e =
      let r = piece_front octet_string_tag c d h h' p p' o o' hd hd' e in
      let a : x ≡ x' = pieces_value ps ps' r.forms r.inside in
      let b : s ≡ s' = segments_value gs gs' r.rest in
      ap (λ q. q ++ s) a ∙ ap (λ q. x' ++ q) b

abbrev tail_of : List ℕ → List ℕ
tail_of [] = []
tail_of (x ∷ xs) = xs

whole_value : {s u : List Bool} {o p : List ℕ} → WholeBits s o → WholeBits u p → o ≡ p → s ≡ u
whole_value {s} {u} {o} {p} a b e =
    let f : a.unused ∷ a.octets ≡ b.unused ∷ b.octets = sym a.is ∙ e ∙ b.is in
    let n = ap head_or_0 f in
    let g : s ++ a.filling ≡ u ++ b.filling = sym a.bits ∙ ap (flat_map bits_of_octet) (ap tail_of f) ∙ b.bits in
    let l = ap length g in
    let m = a.as_many in
    let m' = b.as_many in
    bits_front s u a.filling b.filling (omega (arith, l, n, m, m', length-append s a.filling, length-append u b.filling)) g

pub segments_some : {s : List Bool} {o : List ℕ} → BitSegments s o → o ≡ [] → ⊥
segments_some (last_segment {h = h} {p = p} hd ps) e = not_empty h p [] (header_some hd) (nil_right (h ++ p) ∙ e)
segments_some (bit_segment {h = h} {p = p} {o = o} hd ps m gs) e = not_empty h p o (header_some hd) e

mutual
  pub bits_value : {s u : List Bool} {c d : Bool} {o p : List ℕ} → BitPieces s c o → BitPieces u d p → c ≡ d → o ≡ p → s ≡ u
  bits_value (whole_bits a) (whole_bits b) f e = whole_value a b e
  bits_value (whole_bits a) (cut_bits b) f e = absurd (cc)
  bits_value (cut_bits a) (whole_bits b) f e = absurd (cc)
  bits_value (cut_bits a) (cut_bits b) f e = bit_segments_value a b e

  bit_segments_value : {s u : List Bool} {o p : List ℕ} → BitSegments s o → BitSegments u p → o ≡ p → s ≡ u
  bit_segments_value (last_segment {c = c} {h = h} {p = p} hd ps) (last_segment {c = d} {h = h'} {p = p'} hd' ps') e =
      let r = piece_front bit_string_tag c d h h' p p' [] [] hd hd' (ap (λ q. q ++ []) e) in
      bits_value ps ps' r.forms r.inside
  bit_segments_value (last_segment {c = c} {h = h} {p = p} hd ps) (bit_segment {c = d} {h = h'} {p = p'} {o = o'} hd' ps' m gs') e =
      let r = piece_front bit_string_tag c d h h' p p' [] o' hd hd' (nil_right (h ++ p) ∙ e) in
      absurd (segments_some gs' (sym r.rest))
  bit_segments_value (bit_segment {c = c} {h = h} {p = p} {o = o} hd ps m gs) (last_segment {c = d} {h = h'} {p = p'} hd' ps') e =
      let r = piece_front bit_string_tag c d h h' p p' o [] hd hd' (e ∙ sym (nil_right (h' ++ p'))) in
      absurd (segments_some gs r.rest)
  bit_segments_value (bit_segment {c = c} {h = h} {p = p} {o = o} {x = x} {s = s} hd ps m gs) (bit_segment {c = d} {h = h'} {p = p'} {o = o'} {x = x'} {s = s'} hd' ps' m' gs') e =
      let r = piece_front bit_string_tag c d h h' p p' o o' hd hd' e in
      let a : x ≡ x' = bits_value ps ps' r.forms r.inside in
      let b : s ≡ s' = bit_segments_value gs gs' r.rest in
      ap (λ q. q ++ s) a ∙ ap (λ q. x' ++ q) b

-- contents of a kind say one value
pub contents_value : {r r' : Rules} {k : Kind} {v w : AbstractValue} {c d : Bool} {x y : List ℕ} → Contents r k v c x → Contents r' k w d y → c ≡ d → x ≡ y → v ≡ w
contents_value of_false of_false f e = refl
contents_value of_false (of_true l m n) f e = absurd (let h = ap head_or_0 e in omega arith)
contents_value (of_true l m n) of_false f e = absurd (let h = ap head_or_0 e in omega arith)
contents_value (of_true l m n) (of_true l' m' n') f e = refl
contents_value (of_integer a) (of_integer b) f e = ap integer (twos_value a.is b.is e)
contents_value (of_enumerated a) (of_enumerated b) f e = ap enumerated (twos_value a.is b.is e)
contents_value (of_bits a g h) (of_bits b g' h') f e = ap bits (bits_value a b f e)
contents_value (of_named_bits a g h i) (of_named_bits b g' h' i') f e = ap bits (bits_value a b f e)
contents_value (of_octets a g) (of_octets b g') f e = ap octets (pieces_value a b f e)
contents_value of_null of_null f e = refl
contents_value (of_oid {ns = ms} a) (of_oid {ns = ns} b) f e = ap oid (arcs_value a b (septet_lists (joined ms) (joined ns) e))
contents_value (of_relative_oid {ns = ms} a) (of_relative_oid {ns = ns} b) f e = ap relative_oid (septet_lists ms ns e)
contents_value (of_utf8 a g) (of_utf8 b g') f e = ap text (pieces_value a b f e)
contents_value (of_restricted a g) (of_restricted b g') f e = ap text (pieces_value a b f e)
