-- Octets of segments, one segment after the other.
use Rattle.std.proofs.Common.{arith, ◌≡◌, ℕ, suc, ◌+◌, ◌-◌, ◌≤◌, Bool, true, false, List, [], ◌∷◌, ◌++◌, length, refl, sym, ap, subst, ◌∙◌, append_assoc}
use Rattle.std.specs.Prelude.{max}
use Rattle.std.proofs.lemmas.List.{append-nil}
use Rattle.std.specs.Int.Digits.{AllBelowBase}
use Rattle.asn_base.specs.declared.tag.Tag.{Tag}
use Rattle.encodings.specs.Strings.{whole, cut, Segments, no_segment, segment, octet_string_tag}
use Rattle.encodings.specs.Levels.{piece_levels, segment_levels}
use Rattle.segmented_strings.specs.declared.fault.SegmentError.{SegmentError}
use Rattle.segmented_strings.specs.declared.fault.SegmentsFault.{SegmentsFault}
use Rattle.segmented_strings.specs.declared.fault.SegmentsFault.TheVariants.{Memory, At}
use Rattle.segmented_strings.specs.Within.{SegmentAt, PiecesWithin, OctetsWithin}
use Rattle.segmented_strings.specs.Failing.{NoSegment, OctetsFail, no_octets, in_octets, after_octets}
use Rattle.segmented_strings.specs.Refusing.{place_of, moved_by, IsRefused, for_memory, at_place, Joins, JoinsOne}
use Rattle.segmented_strings.proofs.Units.{unit_length}

pub none_within : {room : ℕ} → OctetsWithin room [] []
none_within = record { segments = no_segment; few = omega arith }

-- a segment in front of others
one_within : (r : ℕ) (s t : List ℕ) (c : Bool) (x rest o : List ℕ) → SegmentAt octet_string_tag c x rest o → PiecesWithin r s c x → OctetsWithin (suc r) t rest → OctetsWithin (suc r) (s ++ t) o
one_within r s t c x rest o u p w =
    let g = segment u.is_header p.pieces w.segments in
    let l : max (suc (piece_levels p.pieces)) (segment_levels w.segments) ≤ suc r = let a = p.few in let b = w.few in omega arith in
    moved o (sym (u.whole ∙ sym (append_assoc u.header x rest))) g l
  where
    moved : (q : List ℕ) → (u.header ++ x) ++ rest ≡ q → (g : Segments (s ++ t) ((u.header ++ x) ++ rest)) → segment_levels g ≤ suc r → OctetsWithin (suc r) (s ++ t) q
    moved q e g l = subst (λ z. OctetsWithin (suc r) (s ++ t) z) e (record { segments = g; few = l })

pub segment_within : (room : ℕ) (t : List ℕ) {octets following old new : List ℕ} (j : JoinsOne room octets following old new) → OctetsWithin room t following → OctetsWithin room (j.string ++ t) octets
segment_within room t {octets = o} {following = b} j w =
    subst (λ q. OctetsWithin q (j.string ++ t) o) (sym j.deep) (one_within j.below j.string t j.constructed j.contents b o j.unit j.holds (subst (λ q. OctetsWithin q t b) j.deep w))

-- the contents before the rest hold a string, and the octets of the rest follow it
pub record OctetsSoFar (room : ℕ) (contents rest old now : List ℕ) : Type 0 where
  pub string : List ℕ
  pub joined : now ≡ old ++ string
  pub holds : (t : List ℕ) → OctetsWithin room t rest → OctetsWithin room (string ++ t) contents
  pub fails : (n : ℕ) (e : SegmentError) (i : ℕ) → n + length rest ≡ length contents → OctetsFail room e i rest → OctetsFail room e (n + i) contents
  pub shorter : length rest ≤ length contents

pub octets_begin : (room : ℕ) (contents old : List ℕ) → OctetsSoFar room contents contents old old
octets_begin room contents old = record {
  string = [];
  joined = sym (append-nil old);
  holds = λ t w. w;
  fails = λ n e i l f. (let z : i ≡ n + i = omega arith in subst (λ q. OctetsFail room e q contents) z f);
  shorter = omega arith;
}

pub octets_next : (room : ℕ) (contents rest following old now new : List ℕ) → OctetsSoFar room contents rest old now → JoinsOne room rest following now new → OctetsSoFar room contents following old new
octets_next room contents rest following old now new s j = record {
  string = s.string ++ j.string;
  joined = j.joined ∙ ap (λ q. q ++ j.string) s.joined ∙ append_assoc old s.string j.string;
  holds = λ t w. subst (λ q. OctetsWithin room q contents) (sym (append_assoc s.string j.string t)) (s.holds (j.string ++ t) (segment_within room t j w));
  fails = λ n e i l f. on n e i l f;
  shorter = let a = unit_length j.unit in let b = s.shorter in omega arith;
}
  where
    on : (n : ℕ) (e : SegmentError) (i : ℕ) → n + length following ≡ length contents → OctetsFail room e i following → OctetsFail room e (n + i) contents
    on n e i l f =
        let a = unit_length j.unit in
        let b = s.shorter in
        let h = length j.unit.header in
        let k = length j.contents in
        let m = length contents - length rest in
        let first : OctetsFail room e (h + (k + i)) rest = subst (λ q. OctetsFail q e (h + (k + i)) rest) (sym j.deep) (after_octets j.unit j.holds (subst (λ q. OctetsFail q e i following) j.deep f) refl) in
        let far : m + (h + (k + i)) ≡ n + i = omega arith in
        subst (λ q. OctetsFail room e q contents) far (s.fails m e (h + (k + i)) (omega arith) first)

pub octets_end : (room : ℕ) (contents rest old now : List ℕ) → OctetsSoFar room contents rest old now → length rest ≡ 0 → Joins room contents old now
octets_end room contents [] old now s l = record {
  string = s.string;
  holds = subst (λ q. OctetsWithin room q contents) (append-nil s.string) (s.holds [] none_within);
  joined = s.joined;
}
octets_end room contents (x ∷ rest) old now s l = absurd (omega arith)

-- a refusal within the rest
pub octets_refused : (room : ℕ) (contents rest old now : List ℕ) (n : ℕ) (f : SegmentsFault) → OctetsSoFar room contents rest old now → n + length rest ≡ length contents → IsRefused (OctetsFail room) f rest → IsRefused (OctetsFail room) (moved_by n f) contents
octets_refused room contents rest old now n Memory s l for_memory = for_memory
octets_refused room contents rest old now n (At i e) s l (at_place f b) = at_place (s.fails n e i l f) (omega arith)

pub place_within : {Fail : SegmentError → ℕ → List ℕ → Type 0} {o : List ℕ} (f : SegmentsFault) → IsRefused Fail f o → place_of f ≤ length o
place_within Memory for_memory = omega arith
place_within (At i e) (at_place f b) = b

pub primitive_octets : (room r : ℕ) (x following octets old new : List ℕ) → SegmentAt octet_string_tag false x following octets → room ≡ suc r → AllBelowBase 256 x → new ≡ old ++ x → JoinsOne room octets following old new
primitive_octets room r x following octets old new u e b j = record { below = r; constructed = false; contents = x; string = x; unit = u; deep = e; holds = record { pieces = whole b; few = omega arith }; joined = j }

pub constructed_octets : (room r : ℕ) (x following octets old new : List ℕ) → SegmentAt octet_string_tag true x following octets → room ≡ suc r → Joins r x old new → JoinsOne room octets following old new
constructed_octets room r x following octets old new u e j = record { below = r; constructed = true; contents = x; string = j.string; unit = u; deep = e; holds = record { pieces = cut j.holds.segments; few = j.holds.few }; joined = j.joined }

pub refused_in_octets : (room r n : ℕ) (x following octets : List ℕ) (f : SegmentsFault) (u : SegmentAt octet_string_tag true x following octets) → room ≡ suc r → n + (length x + length following) ≡ length octets → IsRefused (OctetsFail r) f x → IsRefused (OctetsFail room) (moved_by n f) octets
refused_in_octets room r n x following octets Memory u e l for_memory = for_memory
refused_in_octets room r n x following octets (At i w) u e l (at_place f b) =
    let a = unit_length u in
    let k : n + i ≡ length u.header + i = omega arith in
    at_place (subst (λ q. OctetsFail q w (n + i) octets) (sym e) (in_octets u f k)) (omega arith)

pub for_want : {Fail : SegmentError → ℕ → List ℕ → Type 0} {o : List ℕ} (f : SegmentsFault) → f ≡ Memory → IsRefused Fail f o
for_want {Fail} {o} f e = subst (λ q. IsRefused Fail q o) (sym e) for_memory

pub front_octets : (g : Tag) (room : ℕ) (w : SegmentError) (o : List ℕ) → NoSegment g room o w → g ≡ octet_string_tag → IsRefused (OctetsFail room) (At 0 w) o
front_octets g room w o n e = at_place (no_octets (subst (λ q. NoSegment q room o w) e n)) (omega arith)
