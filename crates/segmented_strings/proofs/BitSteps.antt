-- Bits of segments, one segment after the other.
use Rattle.std.proofs.Common.{arith, ◌≡◌, ℕ, suc, ◌+◌, ◌-◌, ◌*◌, ◌%◌, ◌<◌, ◌≤◌, Bool, true, false, List, [], ◌∷◌, ◌++◌, length, refl, sym, ap, subst, ◌∙◌, append_assoc, length-append}
use Rattle.std.specs.Prelude.{flat_map, max}
use Rattle.std.proofs.lemmas.List.{append-nil}
use Rattle.std.proofs.lemmas.Grind.{flat_map-append}
use Rattle.std.specs.Int.Digits.{AllBelowBase}
use Rattle.asn_base.specs.Abstract.{bits_of_octet}
use Rattle.asn_base.specs.declared.tag.Tag.{Tag}
use Rattle.encodings.specs.Strings.{whole_bits, cut_bits, BitSegments, last_segment, bit_segment, WholeBits, bit_string_tag}
use Rattle.encodings.specs.Levels.{bit_piece_levels, bit_segment_levels}
use Rattle.segmented_strings.specs.declared.fault.SegmentError.{SegmentError}
use Rattle.segmented_strings.specs.declared.fault.SegmentError.TheVariants as whys
use Rattle.segmented_strings.specs.declared.fault.SegmentsFault.{SegmentsFault}
use Rattle.segmented_strings.specs.declared.fault.SegmentsFault.TheVariants.{Memory, At}
use Rattle.segmented_strings.specs.Within.{SegmentAt, BitPiecesWithin, BitsWithin}
use Rattle.segmented_strings.specs.Failing.{NoSegment, BitsFail, no_bits, without_segments, bad_bits, odd_bits, in_bits, after_bits}
use Rattle.segmented_strings.specs.Refusing.{moved_by, IsRefused, for_memory, at_place, JoinsBits, JoinsOneBits}
use Rattle.segmented_strings.proofs.Units.{unit_length}

-- ---- whole strings

pub eight_each : (xs : List ℕ) → length (flat_map bits_of_octet xs) ≡ 8 * length xs
eight_each [] = refl
eight_each (x ∷ xs) =
    let e : length (flat_map bits_of_octet (x ∷ xs)) ≡ 8 + length (flat_map bits_of_octet xs) = length-append (bits_of_octet x) (flat_map bits_of_octet xs) in
    let h = eight_each xs in
    omega arith

both_below : (a b : List ℕ) → AllBelowBase 256 a → AllBelowBase 256 b → AllBelowBase 256 (a ++ b)
both_below [] b f g = g
both_below (x ∷ a) b f g = (f.0, both_below a b f.1 g)

none_left : (s : List Bool) → length s ≡ 0 → s ≡ []
none_left [] e = refl
none_left (x ∷ s) e = absurd (omega arith)

head_same : {x y : ℕ} {a b : List ℕ} → x ∷ a ≡ y ∷ b → x ≡ y
head_same {x} e = ap (λ q. elim q [ [] ↦ x | z ∷ zs ↦ z ]) e

tail_same : {x y : ℕ} {a b : List ℕ} → x ∷ a ≡ y ∷ b → a ≡ b
tail_same {a = a} e = ap (λ q. elim q [ [] ↦ a | z ∷ zs ↦ zs ]) e

-- how many bits, and unused ones, a string has
pub counted : (u : ℕ) (s : List Bool) (a : List ℕ) → WholeBits s (u ∷ a) → (8 * length a ≡ length s + u) × (u < 8)
counted u s a w =
    let e : u ≡ w.unused = head_same w.is in
    let f : a ≡ w.octets = tail_same w.is in
    let g = ap length w.bits ∙ length-append s w.filling in
    let h = eight_each w.octets in
    let k = ap length f in
    let m = w.as_many in
    let n = w.few in
    (omega arith, omega arith)

pub even : (s : List Bool) (a : List ℕ) → WholeBits s (0 ∷ a) → length s % 8 ≡ 0
even s a w = let c = (counted 0 s a w).0 in omega arith

pub uneven : (u : ℕ) (s : List Bool) (a : List ℕ) → WholeBits s (u ∷ a) → 0 < u → length s % 8 ≡ 0 → ⊥
uneven u s a w l e = let c = (counted u s a w).0 in let b = (counted u s a w).1 in omega arith

-- a string without unused bits, and another one
pub both_whole : (u : ℕ) (s t : List Bool) (a b : List ℕ) → WholeBits s (0 ∷ a) → WholeBits t (u ∷ b) → WholeBits (s ++ t) (u ∷ (a ++ b))
both_whole u s t a b v w =
    let e : 0 ≡ v.unused = head_same v.is in
    let f : a ≡ v.octets = tail_same v.is in
    let none : v.filling ≡ [] = none_left v.filling (v.as_many ∙ sym e) in
    let former : flat_map bits_of_octet a ≡ s = ap (flat_map bits_of_octet) f ∙ v.bits ∙ ap (λ q. s ++ q) none ∙ append-nil s in
    let g : b ≡ w.octets = tail_same w.is in
    let latter : flat_map bits_of_octet b ≡ t ++ w.filling = ap (flat_map bits_of_octet) g ∙ w.bits in
    record {
      unused = u;
      octets = a ++ b;
      filling = w.filling;
      few = (counted u t b w).1;
      are_octets = both_below a b (subst (AllBelowBase 256) (sym f) v.are_octets) (subst (AllBelowBase 256) (sym g) w.are_octets);
      is = refl;
      bits = flat_map-append bits_of_octet a b ∙ ap (λ q. q ++ flat_map bits_of_octet b) former ∙ ap (λ q. s ++ q) latter ∙ sym (append_assoc s t w.filling);
      as_many = w.as_many ∙ sym (head_same w.is);
    }

pub none_whole : WholeBits [] (0 ∷ [])
none_whole = record { unused = 0; octets = []; filling = []; few = omega arith; are_octets = tt; is = refl; bits = refl; as_many = refl }

-- ---- segments

last_within : (r : ℕ) (s : List Bool) (c : Bool) (x o : List ℕ) → SegmentAt bit_string_tag c x [] o → BitPiecesWithin r s c x → BitsWithin (suc r) s o
last_within r s c x o u p =
    let l : suc (bit_piece_levels p.pieces) ≤ suc r = let a = p.few in omega arith in
    subst (λ z. BitsWithin (suc r) s z) (ap (λ q. u.header ++ q) (sym (append-nil x)) ∙ sym u.whole) (record { segments = last_segment u.is_header p.pieces; few = l })

one_within : (r : ℕ) (s t : List Bool) (c : Bool) (x rest o : List ℕ) → SegmentAt bit_string_tag c x rest o → BitPiecesWithin r s c x → length s % 8 ≡ 0 → BitsWithin (suc r) t rest → BitsWithin (suc r) (s ++ t) o
one_within r s t c x rest o u p m w =
    let g = bit_segment u.is_header p.pieces m w.segments in
    let l : max (suc (bit_piece_levels p.pieces)) (bit_segment_levels w.segments) ≤ suc r = let a = p.few in let b = w.few in omega arith in
    moved o (sym (u.whole ∙ sym (append_assoc u.header x rest))) g l
  where
    moved : (q : List ℕ) → (u.header ++ x) ++ rest ≡ q → (g : BitSegments (s ++ t) ((u.header ++ x) ++ rest)) → bit_segment_levels g ≤ suc r → BitsWithin (suc r) (s ++ t) q
    moved q e g l = subst (λ z. BitsWithin (suc r) (s ++ t) z) e (record { segments = g; few = l })

-- The contents before the rest hold a multiple of eight bits, and the rest isn't empty. The bits of the rest follow
-- them.
pub record BitsSoFar (room : ℕ) (contents rest old now : List ℕ) : Type 0 where
  pub string : List Bool
  pub octets : List ℕ
  pub joined : now ≡ old ++ octets
  pub whole : WholeBits string (0 ∷ octets)
  pub holds : (t : List Bool) → BitsWithin room t rest → BitsWithin room (string ++ t) contents
  pub fails : (n : ℕ) (e : SegmentError) (i : ℕ) → n + length rest ≡ length contents → BitsFail room e i rest → BitsFail room e (n + i) contents
  pub shorter : length rest ≤ length contents
  pub some : 1 ≤ length rest

pub bits_begin : (room : ℕ) (contents old : List ℕ) → 1 ≤ length contents → BitsSoFar room contents contents old old
bits_begin room contents old some = record {
  string = [];
  octets = [];
  joined = sym (append-nil old);
  whole = none_whole;
  holds = λ t w. w;
  fails = λ n e i l f. (let z : i ≡ n + i = omega arith in subst (λ q. BitsFail room e q contents) z f);
  shorter = omega arith;
  some = some;
}

pub bits_next : (room unused : ℕ) (contents rest following old now new : List ℕ) → BitsSoFar room contents rest old now → JoinsOneBits room rest following now new unused → unused ≡ 0 → 1 ≤ length following → BitsSoFar room contents following old new
bits_next room unused contents rest following old now new s j z more = record {
  string = s.string ++ j.string;
  octets = s.octets ++ j.octets;
  joined = j.joined ∙ ap (λ q. q ++ j.octets) s.joined ∙ append_assoc old s.octets j.octets;
  whole = both_whole 0 s.string j.string s.octets j.octets s.whole here;
  holds = λ t w. subst (λ q. BitsWithin room q contents) (sym (append_assoc s.string j.string t)) (s.holds (j.string ++ t) (first t w));
  fails = λ n e i l f. on n e i l f;
  shorter = let a = unit_length j.unit in let b = s.shorter in omega arith;
  some = more;
}
  where
    here : WholeBits j.string (0 ∷ j.octets)
    here = subst (λ q. WholeBits j.string (q ∷ j.octets)) z j.whole

    first : (t : List Bool) → BitsWithin room t following → BitsWithin room (j.string ++ t) rest
    first t w = subst (λ q. BitsWithin q (j.string ++ t) rest) (sym j.deep) (one_within j.below j.string t j.constructed j.contents following rest j.unit j.holds (even j.string j.octets here) (subst (λ q. BitsWithin q t following) j.deep w))

    on : (n : ℕ) (e : SegmentError) (i : ℕ) → n + length following ≡ length contents → BitsFail room e i following → BitsFail room e (n + i) contents
    on n e i l f =
        let a = unit_length j.unit in
        let b = s.shorter in
        let h = length j.unit.header in
        let k = length j.contents in
        let m = length contents - length rest in
        let front : BitsFail room e (h + (k + i)) rest = subst (λ q. BitsFail q e (h + (k + i)) rest) (sym j.deep) (after_bits j.unit j.holds (even j.string j.octets here) more (subst (λ q. BitsFail q e i following) j.deep f) refl) in
        let far : m + (h + (k + i)) ≡ n + i = omega arith in
        subst (λ q. BitsFail room e q contents) far (s.fails m e (h + (k + i)) (omega arith) front)

pub bits_end : (room unused : ℕ) (contents rest following old now new : List ℕ) → BitsSoFar room contents rest old now → JoinsOneBits room rest following now new unused → length following ≡ 0 → JoinsBits room contents old new unused
bits_end room unused contents rest [] old now new s j l = record {
  string = s.string ++ j.string;
  octets = s.octets ++ j.octets;
  holds = s.holds j.string (subst (λ q. BitsWithin q j.string rest) (sym j.deep) (last_within j.below j.string j.constructed j.contents rest j.unit j.holds));
  joined = j.joined ∙ ap (λ q. q ++ j.octets) s.joined ∙ append_assoc old s.octets j.octets;
  whole = both_whole unused s.string j.string s.octets j.octets s.whole j.whole;
}
bits_end room unused contents rest (x ∷ following) old now new s j l = absurd (omega arith)

pub bits_refused : (room : ℕ) (contents rest old now : List ℕ) (n : ℕ) (f : SegmentsFault) → BitsSoFar room contents rest old now → n + length rest ≡ length contents → IsRefused (BitsFail room) f rest → IsRefused (BitsFail room) (moved_by n f) contents
bits_refused room contents rest old now n Memory s l for_memory = for_memory
bits_refused room contents rest old now n (At i e) s l (at_place f b) = at_place (s.fails n e i l f) (omega arith)

-- unused bits before more segments
pub bits_odd : (room unused : ℕ) (contents rest following old now new : List ℕ) (n : ℕ) → BitsSoFar room contents rest old now → JoinsOneBits room rest following now new unused → n + length rest ≡ length contents → 0 < unused → 1 ≤ length following → IsRefused (BitsFail room) (At n whys.BadContents) contents
bits_odd room unused contents rest following old now new n s j l u more =
    let front : BitsFail room whys.BadContents 0 rest = subst (λ q. BitsFail q whys.BadContents 0 rest) (sym j.deep) (odd_bits j.unit j.holds (uneven unused j.string j.octets j.whole u) more) in
    let z : n + 0 ≡ n = omega arith in
    at_place (subst (λ q. BitsFail room whys.BadContents q contents) z (s.fails n whys.BadContents 0 l front)) (omega arith)

-- ---- the segment at the front

pub primitive_bits : (room r unused : ℕ) (s : List Bool) (x a following octets old new : List ℕ) → SegmentAt bit_string_tag false x following octets → room ≡ suc r → WholeBits s x → x ≡ unused ∷ a → new ≡ old ++ a → JoinsOneBits room octets following old new unused
primitive_bits room r unused s x a following octets old new u e w is j = record { below = r; constructed = false; contents = x; string = s; octets = a; unit = u; deep = e; holds = record { pieces = whole_bits w; few = omega arith }; joined = j; whole = subst (WholeBits s) is w }

pub constructed_bits : (room r unused : ℕ) (x following octets old new : List ℕ) → SegmentAt bit_string_tag true x following octets → room ≡ suc r → JoinsBits r x old new unused → JoinsOneBits room octets following old new unused
constructed_bits room r unused x following octets old new u e j = record { below = r; constructed = true; contents = x; string = j.string; octets = j.octets; unit = u; deep = e; holds = record { pieces = cut_bits j.holds.segments; few = j.holds.few }; joined = j.joined; whole = j.whole }

pub bad_primitive : (room r : ℕ) (x following octets : List ℕ) → SegmentAt bit_string_tag false x following octets → room ≡ suc r → ((s : List Bool) → WholeBits s x → ⊥) → IsRefused (BitsFail room) (At 0 whys.BadContents) octets
bad_primitive room r x following octets u e n = at_place (subst (λ q. BitsFail q whys.BadContents 0 octets) (sym e) (bad_bits u n)) (omega arith)

pub refused_in_bits : (room r n : ℕ) (x following octets : List ℕ) (f : SegmentsFault) (u : SegmentAt bit_string_tag true x following octets) → room ≡ suc r → n + (length x + length following) ≡ length octets → IsRefused (BitsFail r) f x → IsRefused (BitsFail room) (moved_by n f) octets
refused_in_bits room r n x following octets Memory u e l for_memory = for_memory
refused_in_bits room r n x following octets (At i w) u e l (at_place f b) =
    let a = unit_length u in
    let k : n + i ≡ length u.header + i = omega arith in
    at_place (subst (λ q. BitsFail q w (n + i) octets) (sym e) (in_bits u f k)) (omega arith)

pub without_bits : (room : ℕ) (contents : List ℕ) → length contents ≡ 0 → IsRefused (BitsFail room) (At 0 whys.EmptySegments) contents
without_bits room [] e = at_place (without_segments refl) (omega arith)
without_bits room (x ∷ o) e = absurd (omega arith)

pub front_bits : (g : Tag) (room : ℕ) (w : SegmentError) (o : List ℕ) → NoSegment g room o w → g ≡ bit_string_tag → IsRefused (BitsFail room) (At 0 w) o
front_bits g room w o n e = at_place (no_bits (subst (λ q. NoSegment q room o w) e n)) (omega arith)
