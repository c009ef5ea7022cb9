-- Contents octets have one string or one fault.
use Rattle.std.proofs.Common.{arith, ◌≡◌, ℕ, ◌%◌, ◌≤◌, Bool, true, false, List, [], ◌∷◌, ◌++◌, length, refl, sym, ap, subst, ◌∙◌, append_assoc, length-append}
use Rattle.std.specs.Prelude.{flat_map}
use Rattle.std.proofs.lemmas.List.{append-nil}
use Rattle.asn_base.specs.Abstract.{bits_of_octet}
use Rattle.asn_base.specs.declared.tag.Tag.{Tag}
use Rattle.encodings.specs.Header.{Header, LengthOf, short, long}
use Rattle.encodings.specs.Strings.{Pieces, whole, cut, Segments, no_segment, segment, BitPieces, whole_bits, cut_bits, BitSegments, last_segment, bit_segment, WholeBits, octet_string_tag, bit_string_tag}
use Rattle.encodings.specs.Levels.{piece_levels, segment_levels, bit_piece_levels, bit_segment_levels}
use Rattle.octets.specs.Fronts.{HeaderAt, IsRightFault}
use Rattle.octets.specs.declared.header_fault.HeaderFault.{HeaderFault}
use Rattle.segmented_strings.specs.declared.fault.SegmentError.{SegmentError}
use Rattle.segmented_strings.specs.declared.fault.SegmentError.TheVariants as whys
use Rattle.segmented_strings.specs.Within.{SegmentAt, BitPiecesWithin}
use Rattle.segmented_strings.specs.Failing.{NoSegment, no_header, too_deep, other_tag, OctetsFail, no_octets, in_octets, after_octets, BitsFail, no_bits, without_segments, bad_bits, odd_bits, in_bits, after_bits}
use Rattle.segmented_strings.proofs.Units.{same_parts, unit_length, at_octets}

-- ---- whole strings of bits

two_parts : (s t f g : List Bool) → length f ≡ length g → s ++ f ≡ t ++ g → s ≡ t
two_parts [] [] f g l e = refl
two_parts [] (y ∷ t) f g l e = absurd (let q = ap length e in let r = length-append t g in omega arith)
two_parts (x ∷ s) [] f g l e = absurd (let q = ap length e in let r = length-append s f in omega arith)
two_parts (x ∷ s) (y ∷ t) f g l e =
    let h : x ≡ y = ap (λ q. elim q [ [] ↦ x | z ∷ zs ↦ z ]) e in
    let k : s ≡ t = two_parts s t f g l (ap (λ q. elim q [ [] ↦ s ++ f | z ∷ zs ↦ zs ]) e) in
    cc

abbrev head_or_0 : List ℕ → ℕ
head_or_0 [] = 0
head_or_0 (x ∷ o) = x

abbrev tail_of : List ℕ → List ℕ
tail_of [] = []
tail_of (x ∷ o) = o

one_whole : (s t : List Bool) (x : List ℕ) → WholeBits s x → WholeBits t x → s ≡ t
one_whole s t x v w =
    let e : v.unused ≡ w.unused = ap head_or_0 (sym v.is ∙ w.is) in
    let f : v.octets ≡ w.octets = ap tail_of (sym v.is ∙ w.is) in
    two_parts s t v.filling w.filling (v.as_many ∙ e ∙ sym w.as_many) (sym v.bits ∙ ap (flat_map bits_of_octet) f ∙ w.bits)

header_some : {t : Tag} {c : Bool} {n : ℕ} {h : List ℕ} → Header t c n h → 1 ≤ length h
header_some {t} {c} {n} {h} a = by a.size a.is_size a.whole
  where
    by : (size : List ℕ) → LengthOf n size → h ≡ Rattle.encodings.specs.Header.identifier t.class t.number c ++ size → 1 ≤ length h
    by size (short l) e = let q = ap length e in let r = length-append (Rattle.encodings.specs.Header.identifier t.class t.number c) size in omega arith
    by size (long l) e = let q = ap length e in let r = length-append (Rattle.encodings.specs.Header.identifier t.class t.number c) size in omega arith

module _ (headers : (t u : Tag) (b c : Bool) (n m : ℕ) (h g x y : List ℕ) → Header t b n h → Header u c m g → h ++ x ≡ g ++ y → (t ≡ u) × (b ≡ c) × (n ≡ m) × (h ≡ g) × (x ≡ y)) (one_header : (t u : Tag) (c d : Bool) (n m k j : ℕ) (o : List ℕ) → HeaderAt t c n k o → HeaderAt u d m j o → (t ≡ u) × (c ≡ d) × (n ≡ m) × (k ≡ j)) (one_right_fault : (e f : HeaderFault) (o : List ℕ) → IsRightFault e o → IsRightFault f o → e ≡ f) (either : (e : HeaderFault) (t : Tag) (c : Bool) (n k : ℕ) (o : List ℕ) → IsRightFault e o → HeaderAt t c n k o → ⊥) where
  record SameUnit {g h : Tag} {c d : Bool} {x y r s o : List ℕ} (u : SegmentAt g c x r o) (v : SegmentAt h d y s o) : Type 0 where
    tags : g ≡ h
    forms : c ≡ d
    contents : x ≡ y
    rests : r ≡ s
    counts : length u.header ≡ length v.header

  one_unit : {g h : Tag} {c d : Bool} {x y r s o : List ℕ} (u : SegmentAt g c x r o) (v : SegmentAt h d y s o) → SameUnit u v
  one_unit {g} {h} {c} {d} {x} {y} {r} {s} {o} u v =
      let q = headers g h c d (length x) (length y) u.header v.header (x ++ r) (y ++ s) u.is_header v.is_header (sym u.whole ∙ v.whole) in
      let p = same_parts x y r s q.2 q.4 in
      record { tags = q.0; forms = q.1; contents = p.fronts; rests = p.rests; counts = ap length q.3 }

  header_of : {g : Tag} {c : Bool} {x r o : List ℕ} (u : SegmentAt g c x r o) → length o ≤ 16777216 → HeaderAt g c (length x) (length u.header) o
  header_of {x = x} {r = r} u l =
      let a = unit_length u in
      let b = length-append x r in
      record { header = u.header; rest = x ++ r; is_header = u.is_header; few = omega arith; long = refl; whole = u.whole; follow = omega arith }

  header_empty : {g : Tag} {c : Bool} {n k : ℕ} {o : List ℕ} → HeaderAt g c n k o → length o ≡ 0 → ⊥
  header_empty h e = let a = header_some h.is_header in let b = ap length h.whole in let c = length-append h.header h.rest in omega arith

  unit_empty : {g : Tag} {c : Bool} {x r o : List ℕ} → SegmentAt g c x r o → length o ≡ 0 → ⊥
  unit_empty u e = let a = header_some u.is_header in let b = unit_length u in omega arith

  no_segment_empty : {tag : Tag} {room : ℕ} {o : List ℕ} {e : SegmentError} → NoSegment tag room o e → length o ≡ 0 → ⊥
  no_segment_empty (no_header l s) e = omega arith
  no_segment_empty (too_deep h z) e = header_empty h e
  no_segment_empty (other_tag h l n) e = header_empty h e

  no_segment_unit : {tag : Tag} {room : ℕ} {c : Bool} {x r o : List ℕ} {e : SegmentError} → NoSegment tag room o e → SegmentAt tag c x r o → length o ≤ 16777216 → 1 ≤ room → ⊥
  no_segment_unit {tag} {room} {c} {x} {r} {o} (no_header {e = e} l s) u few some = either e tag c (length x) (length u.header) o s (header_of u few)
  no_segment_unit (too_deep h z) u few some = omega arith
  no_segment_unit {tag} {room} {c} {x} {r} {o} (other_tag {g = g} {c = d} {n = n} {k = k} h l never) u few some =
      never (one_header g tag d c n (length x) k (length u.header) o h (header_of u few)).0

  one_no_segment : {tag : Tag} {room : ℕ} {o : List ℕ} {e f : SegmentError} → NoSegment tag room o e → NoSegment tag room o f → e ≡ f
  one_no_segment {o = o} (no_header {e = e} l s) (no_header {e = f} m t) = ap whys.Header (one_right_fault e f o s t)
  one_no_segment {o = o} (no_header {e = e} l s) (too_deep {g = g} {c = c} {n = n} {k = k} h z) = absurd (either e g c n k o s h)
  one_no_segment {o = o} (no_header {e = e} l s) (other_tag {g = g} {c = c} {n = n} {k = k} h z m) = absurd (either e g c n k o s h)
  one_no_segment {o = o} (too_deep {g = g} {c = c} {n = n} {k = k} h z) (no_header {e = e} l s) = absurd (either e g c n k o s h)
  one_no_segment (too_deep h z) (too_deep k y) = refl
  one_no_segment (too_deep h z) (other_tag k l m) = absurd (omega arith)
  one_no_segment {o = o} (other_tag {g = g} {c = c} {n = n} {k = k} h z m) (no_header {e = e} l s) = absurd (either e g c n k o s h)
  one_no_segment (other_tag h l m) (too_deep k z) = absurd (omega arith)
  one_no_segment (other_tag h l m) (other_tag k z n) = refl

  -- ---- octets

  first_unit : (tag : Tag) (c : Bool) (h p o : List ℕ) → Header tag c (length p) h → SegmentAt tag c p o (h ++ p ++ o)
  first_unit tag c h p o hd = record { header = h; is_header = hd; whole = append_assoc h p o }

  mutual
    pub one_octets : {s t o : List ℕ} → Segments s o → (p : List ℕ) → o ≡ p → Segments t p → s ≡ t
    one_octets no_segment p e no_segment = refl
    one_octets no_segment q e (segment {c = c} {h = h} {x = x} {p = p} {s = s} {o = o} hd pc g) = absurd (unit_empty (first_unit octet_string_tag c h p o hd) (ap length (sym e)))
    one_octets (segment {c = c} {h = h} {x = x} {p = p} {s = s} {o = o} hd pc g) q e no_segment = absurd (unit_empty (first_unit octet_string_tag c h p o hd) (ap length e))
    one_octets (segment {c = c} {h = h} {x = x} {p = p} {s = s} {o = o} hd pc g) q e (segment {c = c'} {h = h'} {x = x'} {p = p'} {s = s'} {o = o'} hd' pc' g') =
        let u = one_unit (at_octets e (first_unit octet_string_tag c h p o hd)) (first_unit octet_string_tag c' h' p' o' hd') in
        let a : x ≡ x' = one_piece pc c' p' u.forms u.contents pc' in
        let b : s ≡ s' = one_octets g o' u.rests g' in
        cc

    one_piece : {c : Bool} {s t x : List ℕ} → Pieces s c x → (d : Bool) (y : List ℕ) → c ≡ d → x ≡ y → Pieces t d y → s ≡ t
    one_piece (whole b) d y f e (whole b') = e
    one_piece (whole b) d y f e (cut g) = absurd (cc)
    one_piece (cut g) d y f e (whole b) = absurd (cc)
    one_piece (cut g) d y f e (cut g') = one_octets g y e g'

  mutual
    pub octets_either : {room i : ℕ} {e : SegmentError} {s o : List ℕ} (g : Segments s o) → segment_levels g ≤ room → (q : List ℕ) → o ≡ q → length q ≤ 16777216 → OctetsFail room e i q → ⊥
    octets_either no_segment l q e few (no_octets n) = no_segment_empty n (ap length (sym e))
    octets_either no_segment l q e few (in_octets u f k) = unit_empty u (ap length (sym e))
    octets_either no_segment l q e few (after_octets u p f k) = unit_empty u (ap length (sym e))
    octets_either (segment {c = c} {h = h} {p = p} {o = o} hd pc g) l q e few (no_octets n) =
        no_segment_unit n (at_octets e (first_unit octet_string_tag c h p o hd)) few (omega arith)
    octets_either (segment {c = c} {h = h} {p = p} {o = o} hd pc g) l q e few (in_octets {room = r} u f k) =
        let v = one_unit (at_octets e (first_unit octet_string_tag c h p o hd)) u in
        let n = unit_length u in
        piece_either pc (omega arith) v.forms _ v.contents (omega arith) f
    octets_either (segment {c = c} {h = h} {p = p} {o = o} hd pc g) l q e few (after_octets {room = r} u w f k) =
        let v = one_unit (at_octets e (first_unit octet_string_tag c h p o hd)) u in
        let n = unit_length u in
        octets_either g (omega arith) _ v.rests (omega arith) f

    piece_either : {room i : ℕ} {e : SegmentError} {c : Bool} {s x : List ℕ} (p : Pieces s c x) → piece_levels p ≤ room → c ≡ true → (y : List ℕ) → x ≡ y → length y ≤ 16777216 → OctetsFail room e i y → ⊥
    piece_either (whole b) l f y e few bad = absurd (cc)
    piece_either (cut g) l f y e few bad = octets_either g l y e few bad

  pub one_octets_fault : {room i j : ℕ} {e f : SegmentError} {o : List ℕ} → OctetsFail room e i o → (q : List ℕ) → o ≡ q → length q ≤ 16777216 → OctetsFail room f j q → (e ≡ f) × (i ≡ j)
  one_octets_fault {room} {e = e} (no_octets n) q d few (no_octets m) = (one_no_segment (subst (λ z. NoSegment octet_string_tag room z e) d n) m, refl)
  one_octets_fault {room} {e = e} (no_octets n) q d few (in_octets u f k) = absurd (no_segment_unit (subst (λ z. NoSegment octet_string_tag room z e) d n) u few (omega arith))
  one_octets_fault {room} {e = e} (no_octets n) q d few (after_octets u w f k) = absurd (no_segment_unit (subst (λ z. NoSegment octet_string_tag room z e) d n) u few (omega arith))
  one_octets_fault (in_octets {x = x} {rest = r} u f k) q d few (no_octets m) = absurd (no_segment_unit m (at_octets d u) few (omega arith))
  one_octets_fault (in_octets {x = x} {rest = r} u f k) q d few (in_octets {x = y} v g m) =
      let s = one_unit (at_octets d u) v in
      let n = unit_length v in
      let h = one_octets_fault f y s.contents (omega arith) g in
      let c : length u.header ≡ length v.header = s.counts in
      (h.0, let p = h.1 in omega arith)
  one_octets_fault (in_octets {x = x} {rest = r} u f k) q d few (after_octets {x = y} v w g m) =
      let s = one_unit v (at_octets d u) in
      let n = unit_length u in
      let o = ap length d in
      absurd (piece_either w.pieces w.few s.forms x s.contents (omega arith) f)
  one_octets_fault (after_octets {c = c} {x = x} {rest = r} u w f k) q d few (no_octets m) = absurd (no_segment_unit m (at_octets d u) few (omega arith))
  one_octets_fault (after_octets {c = c} {x = x} {rest = r} u w f k) q d few (in_octets {x = y} v g m) =
      let s = one_unit (at_octets d u) v in
      let n = unit_length v in
      absurd (piece_either w.pieces w.few s.forms y s.contents (omega arith) g)
  one_octets_fault (after_octets {c = c} {x = x} {rest = r} u w f k) q d few (after_octets {x = y} {rest = t} v w' g m) =
      let s = one_unit (at_octets d u) v in
      let n = unit_length v in
      let h = one_octets_fault f t s.rests (omega arith) g in
      let c : length u.header ≡ length v.header = s.counts in
      let l = ap length s.contents in
      (h.0, let p = h.1 in omega arith)

  -- ---- bits

  last_unit : (c : Bool) (h p : List ℕ) → Header bit_string_tag c (length p) h → SegmentAt bit_string_tag c p [] (h ++ p)
  last_unit c h p hd = record { header = h; is_header = hd; whole = ap (λ q. h ++ q) (sym (append-nil p)) }

  bits_empty : {s : List Bool} {x : List ℕ} → BitSegments s x → x ≡ [] → ⊥
  bits_empty (last_segment {c = c} {h = h} {p = p} hd pc) e = unit_empty (last_unit c h p hd) (ap length e)
  bits_empty (bit_segment {c = c} {h = h} {p = p} {o = o} hd pc m g) e = unit_empty (first_unit bit_string_tag c h p o hd) (ap length e)

  mutual
    pub one_bits : {s t : List Bool} {x : List ℕ} → BitSegments s x → (y : List ℕ) → x ≡ y → BitSegments t y → s ≡ t
    one_bits (last_segment {c = c} {h = h} {p = p} hd pc) y e (last_segment {c = c'} {h = h'} {p = p'} hd' pc') =
        let u = one_unit (at_octets e (last_unit c h p hd)) (last_unit c' h' p' hd') in
        one_bit_piece pc c' p' u.forms u.contents pc'
    one_bits (last_segment {c = c} {h = h} {p = p} hd pc) y e (bit_segment {c = c'} {h = h'} {p = p'} {o = o'} hd' pc' m g) =
        let u = one_unit (at_octets e (last_unit c h p hd)) (first_unit bit_string_tag c' h' p' o' hd') in
        absurd (bits_empty g (sym u.rests))
    one_bits (bit_segment {c = c} {h = h} {p = p} {o = o} hd pc m g) y e (last_segment {c = c'} {h = h'} {p = p'} hd' pc') =
        let u = one_unit (at_octets e (first_unit bit_string_tag c h p o hd)) (last_unit c' h' p' hd') in
        absurd (bits_empty g u.rests)
    one_bits (bit_segment {c = c} {h = h} {p = p} {o = o} {x = x} {s = s} hd pc m g) y e (bit_segment {c = c'} {h = h'} {p = p'} {o = o'} {x = x'} {s = s'} hd' pc' m' g') =
        let u = one_unit (at_octets e (first_unit bit_string_tag c h p o hd)) (first_unit bit_string_tag c' h' p' o' hd') in
        let a : x ≡ x' = one_bit_piece pc c' p' u.forms u.contents pc' in
        let b : s ≡ s' = one_bits g o' u.rests g' in
        cc

    one_bit_piece : {c : Bool} {s t : List Bool} {x : List ℕ} → BitPieces s c x → (d : Bool) (y : List ℕ) → c ≡ d → x ≡ y → BitPieces t d y → s ≡ t
    one_bit_piece {s = s} {t = t} (whole_bits w) d y f e (whole_bits v) = one_whole s t y (subst (WholeBits s) e w) v
    one_bit_piece (whole_bits w) d y f e (cut_bits g) = absurd (cc)
    one_bit_piece (cut_bits g) d y f e (whole_bits w) = absurd (cc)
    one_bit_piece (cut_bits g) d y f e (cut_bits g') = one_bits g y e g'

  one_length : {r : ℕ} {c d : Bool} {s t : List Bool} {x y : List ℕ} → BitPiecesWithin r s c x → BitPieces t d y → d ≡ c → y ≡ x → length s % 8 ≡ length t % 8
  one_length {c = c} {x = x} w p f e = let h = ap length (one_bit_piece p c x f e w.pieces) in ap (λ q. q % 8) (sym h)

  mutual
    pub bits_either : {room i : ℕ} {e : SegmentError} {s : List Bool} {o : List ℕ} (g : BitSegments s o) → bit_segment_levels g ≤ room → (q : List ℕ) → o ≡ q → length q ≤ 16777216 → BitsFail room e i q → ⊥
    bits_either (last_segment {c = c} {h = h} {p = p} hd pc) l q d few (no_bits n) = no_segment_unit n (at_octets d (last_unit c h p hd)) few (omega arith)
    bits_either (last_segment {c = c} {h = h} {p = p} hd pc) l q d few (without_segments z) = unit_empty (at_octets d (last_unit c h p hd)) (ap length z)
    bits_either (last_segment {c = c} {h = h} {p = p} hd pc) l q d few (bad_bits u n) =
        let v = one_unit (at_octets d (last_unit c h p hd)) u in
        never_bad pc v.forms _ v.contents n
    bits_either (last_segment {c = c} {h = h} {p = p} hd pc) l q d few (odd_bits u w m more) =
        let v = one_unit (at_octets d (last_unit c h p hd)) u in
        let r = ap length v.rests in
        omega arith
    bits_either (last_segment {c = c} {h = h} {p = p} hd pc) l q d few (in_bits {room = r} u f k) =
        let v = one_unit (at_octets d (last_unit c h p hd)) u in
        let n = unit_length u in
        bit_piece_either pc (omega arith) v.forms _ v.contents (omega arith) f
    bits_either (last_segment {c = c} {h = h} {p = p} hd pc) l q d few (after_bits u w m more f k) =
        let v = one_unit (at_octets d (last_unit c h p hd)) u in
        let r = ap length v.rests in
        omega arith
    bits_either (bit_segment {c = c} {h = h} {p = p} {o = o} hd pc m g) l q d few (no_bits n) = no_segment_unit n (at_octets d (first_unit bit_string_tag c h p o hd)) few (omega arith)
    bits_either (bit_segment {c = c} {h = h} {p = p} {o = o} hd pc m g) l q d few (without_segments z) = unit_empty (at_octets d (first_unit bit_string_tag c h p o hd)) (ap length z)
    bits_either (bit_segment {c = c} {h = h} {p = p} {o = o} hd pc m g) l q d few (bad_bits u n) =
        let v = one_unit (at_octets d (first_unit bit_string_tag c h p o hd)) u in
        never_bad pc v.forms _ v.contents n
    bits_either (bit_segment {c = c} {h = h} {p = p} {o = o} hd pc m g) l q d few (odd_bits u w n more) =
        let v = one_unit (at_octets d (first_unit bit_string_tag c h p o hd)) u in
        n (one_length w pc v.forms v.contents ∙ m)
    bits_either (bit_segment {c = c} {h = h} {p = p} {o = o} hd pc m g) l q d few (in_bits {room = r} u f k) =
        let v = one_unit (at_octets d (first_unit bit_string_tag c h p o hd)) u in
        let n = unit_length u in
        bit_piece_either pc (omega arith) v.forms _ v.contents (omega arith) f
    bits_either (bit_segment {c = c} {h = h} {p = p} {o = o} hd pc m g) l q d few (after_bits {room = r} u w n more f k) =
        let v = one_unit (at_octets d (first_unit bit_string_tag c h p o hd)) u in
        let n' = unit_length u in
        bits_either g (omega arith) _ v.rests (omega arith) f

    bit_piece_either : {room i : ℕ} {e : SegmentError} {c : Bool} {s : List Bool} {x : List ℕ} (p : BitPieces s c x) → bit_piece_levels p ≤ room → c ≡ true → (y : List ℕ) → x ≡ y → length y ≤ 16777216 → BitsFail room e i y → ⊥
    bit_piece_either (whole_bits w) l f y d few bad = absurd (cc)
    bit_piece_either (cut_bits g) l f y d few bad = bits_either g l y d few bad

    never_bad : {c : Bool} {s : List Bool} {x : List ℕ} → BitPieces s c x → c ≡ false → (y : List ℕ) → x ≡ y → ((t : List Bool) → WholeBits t y → ⊥) → ⊥
    never_bad {s = s} (whole_bits w) f y d n = n s (subst (WholeBits s) d w)
    never_bad (cut_bits g) f y d n = absurd (cc)

  pub one_bits_fault : {room i j : ℕ} {e f : SegmentError} {o : List ℕ} → BitsFail room e i o → (q : List ℕ) → o ≡ q → length q ≤ 16777216 → BitsFail room f j q → (e ≡ f) × (i ≡ j)
  one_bits_fault {room} {e = e} (no_bits n) q d few (no_bits m) = (one_no_segment (subst (λ z. NoSegment bit_string_tag room z e) d n) m, refl)
  one_bits_fault (no_bits n) q d few (without_segments z) = absurd (no_segment_empty n (ap length (d ∙ z)))
  one_bits_fault {room} {e = e} (no_bits n) q d few (bad_bits u m) = absurd (no_segment_unit (subst (λ z. NoSegment bit_string_tag room z e) d n) u few (omega arith))
  one_bits_fault {room} {e = e} (no_bits n) q d few (odd_bits u w m more) = absurd (no_segment_unit (subst (λ z. NoSegment bit_string_tag room z e) d n) u few (omega arith))
  one_bits_fault {room} {e = e} (no_bits n) q d few (in_bits u f k) = absurd (no_segment_unit (subst (λ z. NoSegment bit_string_tag room z e) d n) u few (omega arith))
  one_bits_fault {room} {e = e} (no_bits n) q d few (after_bits u w m more f k) = absurd (no_segment_unit (subst (λ z. NoSegment bit_string_tag room z e) d n) u few (omega arith))
  one_bits_fault (without_segments z) q d few (no_bits m) = absurd (no_segment_empty m (ap length (sym d ∙ z)))
  one_bits_fault (without_segments z) q d few (without_segments y) = (refl, refl)
  one_bits_fault (without_segments z) q d few (bad_bits u m) = absurd (unit_empty u (ap length (sym d ∙ z)))
  one_bits_fault (without_segments z) q d few (odd_bits u w m more) = absurd (unit_empty u (ap length (sym d ∙ z)))
  one_bits_fault (without_segments z) q d few (in_bits u f k) = absurd (unit_empty u (ap length (sym d ∙ z)))
  one_bits_fault (without_segments z) q d few (after_bits u w m more f k) = absurd (unit_empty u (ap length (sym d ∙ z)))
  one_bits_fault (bad_bits u n) q d few (no_bits m) = absurd (no_segment_unit m (at_octets d u) few (omega arith))
  one_bits_fault (bad_bits u n) q d few (without_segments z) = absurd (unit_empty u (ap length (d ∙ z)))
  one_bits_fault (bad_bits u n) q d few (bad_bits v m) = (refl, refl)
  one_bits_fault (bad_bits u n) q d few (odd_bits v w m more) = (refl, refl)
  one_bits_fault (bad_bits u n) q d few (in_bits v f k) = let s = one_unit (at_octets d u) v in absurd (let a = s.forms in cc)
  one_bits_fault (bad_bits {x = x} u n) q d few (after_bits v w m more f k) =
      let s = one_unit v (at_octets d u) in
      absurd (never_bad w.pieces s.forms x s.contents n)
  one_bits_fault (odd_bits u w n more) q d few (no_bits m) = absurd (no_segment_unit m (at_octets d u) few (omega arith))
  one_bits_fault (odd_bits u w n more) q d few (without_segments z) = absurd (unit_empty u (ap length (d ∙ z)))
  one_bits_fault (odd_bits u w n more) q d few (bad_bits v m) = (refl, refl)
  one_bits_fault (odd_bits u w n more) q d few (odd_bits v w' m more') = (refl, refl)
  one_bits_fault (odd_bits u w n more) q d few (in_bits {x = y} v f k) =
      let s = one_unit (at_octets d u) v in
      let a = unit_length v in
      absurd (bit_piece_either w.pieces w.few s.forms y s.contents (omega arith) f)
  one_bits_fault (odd_bits u w n more) q d few (after_bits v w' m more' f k) =
      let s = one_unit v (at_octets d u) in
      absurd (n (one_length w w'.pieces s.forms s.contents ∙ m))
  one_bits_fault (in_bits u f k) q d few (no_bits m) = absurd (no_segment_unit m (at_octets d u) few (omega arith))
  one_bits_fault (in_bits u f k) q d few (without_segments z) = absurd (unit_empty u (ap length (d ∙ z)))
  one_bits_fault (in_bits u f k) q d few (bad_bits v m) = let s = one_unit (at_octets d u) v in absurd (let a = s.forms in cc)
  one_bits_fault (in_bits {x = x} u f k) q d few (odd_bits v w m more) =
      let s = one_unit v (at_octets d u) in
      let a = unit_length u in
      let o = ap length d in
      absurd (bit_piece_either w.pieces w.few s.forms x s.contents (omega arith) f)
  one_bits_fault (in_bits u f k) q d few (in_bits {x = y} v g m) =
      let s = one_unit (at_octets d u) v in
      let n = unit_length v in
      let h = one_bits_fault f y s.contents (omega arith) g in
      let c : length u.header ≡ length v.header = s.counts in
      (h.0, let p = h.1 in omega arith)
  one_bits_fault (in_bits {x = x} u f k) q d few (after_bits v w m more g l) =
      let s = one_unit v (at_octets d u) in
      let a = unit_length u in
      let o = ap length d in
      absurd (bit_piece_either w.pieces w.few s.forms x s.contents (omega arith) f)
  one_bits_fault (after_bits u w n more f k) q d few (no_bits m) = absurd (no_segment_unit m (at_octets d u) few (omega arith))
  one_bits_fault (after_bits u w n more f k) q d few (without_segments z) = absurd (unit_empty u (ap length (d ∙ z)))
  one_bits_fault (after_bits u w n more f k) q d few (bad_bits {x = y} v m) =
      let s = one_unit (at_octets d u) v in
      absurd (never_bad w.pieces s.forms y s.contents m)
  one_bits_fault (after_bits u w n more f k) q d few (odd_bits v w' m more') =
      let s = one_unit (at_octets d u) v in
      absurd (m (one_length w' w.pieces s.forms s.contents ∙ n))
  one_bits_fault (after_bits u w n more f k) q d few (in_bits {x = y} v g m) =
      let s = one_unit (at_octets d u) v in
      let a = unit_length v in
      absurd (bit_piece_either w.pieces w.few s.forms y s.contents (omega arith) g)
  one_bits_fault (after_bits u w n more f k) q d few (after_bits {rest = t} v w' m more' g l) =
      let s = one_unit (at_octets d u) v in
      let a = unit_length v in
      let h = one_bits_fault f t s.rests (omega arith) g in
      let c : length u.header ≡ length v.header = s.counts in
      let b = ap length s.contents in
      (h.0, let p = h.1 in omega arith)
