-- Values that hold no others have contents by the distinguished rules, and contents have headers or are too long for
-- any.
use Rattle.std.proofs.Common.{arith, ℕ, ◌+◌, ◌*◌, ◌/◌, ◌<◌, ◌≤◌, ◌^◌, ◌⊎◌, inl, inr, ⊎_elim, Bool, true, false, cond, List, [], ◌∷◌, ◌++◌, length, refl, ◌∙◌, length-append}
use Rattle.std.proofs.lemmas.List.{append-nil}
use Rattle.std.proofs.lemmas.Int.Digits.{length-digits_of-le}
use Rattle.std.specs.Prelude.{nat_lt, flat_map, IsUtf8}
use Rattle.std.specs.List.{AllByRecursion}
use Rattle.std.specs.Int.Digits.{digits_of, AllBelowBase}
use Rattle.asn_base.specs.declared.tag.Tag.{Tag}
use Rattle.asn_base.specs.Abstract.{AbstractValue, boolean, bits}
use Rattle.asn_base.specs.Names.{IsMember, is_first, is_later}
use Rattle.asn_base.specs.Types.{Kind, Resolved}
use Rattle.asn_base.specs.Typed.{arcs, IsPrimitive, fits_boolean, fits_integer, fits_enumerated, fits_bits, fits_named_bits, fits_octets, fits_null, fits_oid, fits_relative_oid, fits_utf8, fits_restricted}
use Rattle.asn_base.specs.Schemas.{IsSound}
use Rattle.asn_base.specs.Same.{AlikeBy, equal, zeros}
use Rattle.encodings.specs.Rules.{Basic, Distinguished}
use Rattle.encodings.specs.Header.{septets, identifier, HeaderBy}
use Rattle.encodings.specs.Fewest.{shortest_size}
use Rattle.encodings.specs.Strings.{whole, whole_bits}
use Rattle.encodings.specs.Contents.{Contents, of_false, of_true, of_integer, of_enumerated, of_bits, of_named_bits, of_octets, of_null, of_oid, of_relative_oid, of_utf8, of_restricted}
use Rattle.encodings.specs.Encoding.{Framed, bare, innermost, outer}
use Rattle.encodings.specs.Weight.{weight}
use Rattle.encodings.proofs.Frames.{frames_least}
use Rattle.encodings.proofs.Headers.{few_digits, fewest_size, header_of}
use Rattle.encodings.specs.proving.Lengths.{identifier_long, size_long, septets_most, septets_length}
use Rattle.encodings.proofs.BitLaws.{whole_short}
use Rattle.encodings.proofs.Filling.{filled_bits, trimmed_bits}
use Rattle.encodings.proofs.Shortests.{short_number, lt_or_ge}

-- ---- headers

cond_most : (t : Bool) (k m : ℕ) → k ≤ m → cond t 1 (1 + k) ≤ 1 + m
cond_most true k m h = omega arith
cond_most false k m h = omega arith

header_few : (t : Tag) (c : Bool) (n : ℕ) → length (digits_of 256 n) ≤ 126 → length (identifier t.class t.number c ++ shortest_size n) ≤ 133
header_few t c n h =
    let r : t.number < 2147483648 = t.in_range in
    let i = cond_most (nat_lt t.number 31) (length (septets t.number)) 5 (septets_most t.number (omega arith)) in
    let z = cond_most (nat_lt n 128) (length (digits_of 256 n)) 126 h in
    omega (arith, length-append (identifier t.class t.number c) (shortest_size n), identifier_long t.class t.number c, size_long n, i, z)

pub record FramedIn (tags : List Tag) (c : Bool) (x : List ℕ) : Type 0 where
  pub octets : List ℕ
  pub framed : Framed Distinguished tags c x octets
  pub few : length octets ≤ length x + 133 * length tags

-- no lengths are long enough for these contents, nor for as many or more octets
pub record NoFrame (most : ℕ) (tags : List Tag) (x : List ℕ) : Type 0 where
  pub heavy : most ≤ length x + 133 * length tags
  pub none : {c : Bool} {y p : List ℕ} → length x ≤ length y → Framed Basic tags c y p → ⊥

many_digits : {t : Tag} {c : Bool} {n m : ℕ} {h : List ℕ} → n ≤ m → 127 ≤ length (digits_of 256 n) → HeaderBy Basic t c m h → ⊥
many_digits le g a = omega (arith, g, few_digits le a.header.is_size)

module _ (most : ℕ) (digits : (n : ℕ) → n < most → length (digits_of 256 n) ≤ 126) where
  at_least_most : (n : ℕ) → 127 ≤ length (digits_of 256 n) → most ≤ n
  at_least_most n g = ⊎_elim (λ l. absurd (omega (arith, g, digits n l))) (λ h. h) (lt_or_ge n most)

  no_innermost : {t : Tag} (x : List ℕ) → 127 ≤ length (digits_of 256 (length x)) → {c : Bool} {y p : List ℕ} → length x ≤ length y → Framed Basic (t ∷ []) c y p → ⊥
  no_innermost x g le (innermost a) = many_digits le g a

  no_inner : {t u : Tag} {ts : List Tag} {x : List ℕ} → NoFrame most (u ∷ ts) x → {c : Bool} {y p : List ℕ} → length x ≤ length y → Framed Basic (t ∷ u ∷ ts) c y p → ⊥
  no_inner q le (outer f a) = q.none le f

  no_outer : {t u : Tag} {ts : List Tag} {b : Bool} {x o : List ℕ} → Framed Distinguished (u ∷ ts) b x o → 127 ≤ length (digits_of 256 (length o)) → {c : Bool} {y p : List ℕ} → length x ≤ length y → Framed Basic (t ∷ u ∷ ts) c y p → ⊥
  no_outer r g le (outer f a) = many_digits (frames_least r f le) g a

  pub frame : (tags : List Tag) (c : Bool) (x : List ℕ) → FramedIn tags c x ⊎ NoFrame most tags x
  frame [] c x = inl (record { octets = x; framed = bare; few = omega arith })
  frame (t ∷ []) c x = ⊎_elim
      (λ l. (let d : length (digits_of 256 (length x)) ≤ 126 = omega arith in
      let hd = identifier t.class t.number c ++ shortest_size (length x) in
      inl (record { octets = hd ++ x; framed = innermost (header_of t c (length x) (shortest_size (length x)) d (fewest_size (length x))); few = omega (arith, header_few t c (length x) d, length-append hd x) })))
      (λ g. inr (record { heavy = omega (arith, at_least_most (length x) g); none = no_innermost x g }))
      (lt_or_ge (length (digits_of 256 (length x))) 127)
  frame (t ∷ u ∷ ts) c x = ⊎_elim (λ r. with_outer r) (λ n. inr (record { heavy = (let h = n.heavy in omega arith); none = no_inner n })) (frame (u ∷ ts) c x)
    where
      with_outer : FramedIn (u ∷ ts) c x → FramedIn (t ∷ u ∷ ts) c x ⊎ NoFrame most (t ∷ u ∷ ts) x
      with_outer r = ⊎_elim
          (λ l. (let d : length (digits_of 256 (length r.octets)) ≤ 126 = omega arith in
          let hd = identifier t.class t.number true ++ shortest_size (length r.octets) in
          let f = r.few in
          inl (record { octets = hd ++ r.octets; framed = outer r.framed (header_of t true (length r.octets) (shortest_size (length r.octets)) d (fewest_size (length r.octets))); few = omega (arith, f, header_few t true (length r.octets) d, length-append hd r.octets) })))
          (λ g. inr (record { heavy = (let f = r.few in omega (arith, f, at_least_most (length r.octets) g)); none = no_outer r.framed g }))
          (lt_or_ge (length (digits_of 256 (length r.octets))) 127)

-- ---- contents

pub record LeafIn (s : List Resolved) (k : Kind) (v : AbstractValue) : Type 0 where
  pub w : AbstractValue
  pub fits : IsPrimitive k w
  pub same : AlikeBy s k v w
  pub octets : List ℕ
  pub contents : Contents Distinguished k w false octets
  pub few : length octets + 800 ≤ weight v

septets_few : (n : ℕ) → n < 2 ^ 70 → length (septets n) ≤ 10
septets_few n h = let q : n / 128 < 128 ^ 9 = omega arith in omega (arith, septets_length n, length-digits_of-le 128 9 (n / 128) (omega arith) q)

flat_few : (ns : List ℕ) → AllByRecursion (λ n. n < 2 ^ 70) ns → length (flat_map septets ns) ≤ 10 * length ns
flat_few [] a = omega arith
flat_few (n ∷ ns) a = omega (arith, septets_few n a.0, flat_few ns a.1, length-append (septets n) (flat_map septets ns))

all_more : (ns : List ℕ) → AllByRecursion (λ n. n < 2 ^ 64) ns → AllByRecursion (λ n. n < 2 ^ 70) ns
all_more [] a = tt
all_more (n ∷ ns) a = ((let h = a.0 in omega arith), all_more ns a.1)

small_member : {x : ℕ} (codes : List ℕ) → IsMember x codes → AllByRecursion (λ c. c < 128) codes → x < 256
small_member [] m a = elim m [ ]
small_member (c ∷ cs) is_first a = let h = a.0 in omega arith
small_member (c ∷ cs) (is_later m) a = small_member cs m a.1

small_text : (o codes : List ℕ) → AllByRecursion (λ x. IsMember x codes) o → AllByRecursion (λ c. c < 128) codes → AllBelowBase 256 o
small_text [] codes m a = tt
small_text (x ∷ o) codes m a = (small_member codes m.0 a, small_text o codes m.1 a)

module _ (s : List Resolved) (utf8 : (o : List ℕ) → IsUtf8 o → AllBelowBase 256 o) where
  pub leaf_in : {k : Kind} {v : AbstractValue} → IsSound s k → IsPrimitive k v → LeafIn s k v
  leaf_in sound (fits_boolean {b = false}) = record { w = boolean false; fits = fits_boolean; same = equal tt; octets = 0 ∷ []; contents = of_false; few = omega arith }
  leaf_in sound (fits_boolean {b = true}) = record { w = boolean true; fits = fits_boolean; same = equal tt; octets = 255 ∷ []; contents = of_true (omega arith) (omega arith) refl; few = omega arith }
  leaf_in sound (fits_integer {z = z} l a) = let n = short_number z l in let f = n.few in record { w = _; fits = fits_integer l a; same = equal tt; octets = n.octets; contents = of_integer n.number; few = omega arith }
  leaf_in sound (fits_enumerated {z = z} l a) = let n = short_number z l in let f = n.few in record { w = _; fits = fits_enumerated l a; same = equal tt; octets = n.octets; contents = of_enumerated n.number; few = omega arith }
  leaf_in sound (fits_bits {s = b} a) = let n = filled_bits b in record { w = _; fits = fits_bits a; same = equal tt; octets = n.octets; contents = of_bits (whole_bits n.whole) refl n.filled; few = omega (arith, whole_short n.whole) }
  leaf_in sound (fits_named_bits {s = b}) =
      let r = trimmed_bits b in
      let n = filled_bits r.bits in
      let l = r.short in
      record { w = bits r.bits; fits = fits_named_bits; same = zeros 0 r.zeros (append-nil b ∙ r.same); octets = n.octets; contents = of_named_bits (whole_bits n.whole) refl n.filled r.ends; few = omega (arith, l, whole_short n.whole) }
  leaf_in sound (fits_octets {o = o} b a) = record { w = _; fits = fits_octets b a; same = equal tt; octets = o; contents = of_octets (whole b) refl; few = omega arith }
  leaf_in sound fits_null = record { w = _; fits = fits_null; same = equal tt; octets = []; contents = of_null; few = omega arith }
  leaf_in sound (fits_oid (arcs {x = x} {y = y} {zs = zs} a b c d e)) =
      record { w = _; fits = fits_oid (arcs a b c d e); same = equal tt; octets = flat_map septets ((40 * x + y) ∷ zs); contents = of_oid (arcs a b c d e); few = omega (arith, flat_few ((40 * x + y) ∷ zs) ((omega arith), all_more zs d), e) }
  leaf_in sound (fits_relative_oid {ns = ns} a) = let l = a.at_most in record { w = _; fits = fits_relative_oid a; same = equal tt; octets = flat_map septets ns; contents = of_relative_oid a; few = omega (arith, l, flat_few ns (all_more ns a.small)) }
  leaf_in sound (fits_utf8 {o = o} u a) = record { w = _; fits = fits_utf8 u a; same = equal tt; octets = o; contents = of_utf8 (whole (utf8 o u)) refl; few = omega arith }
  leaf_in sound (fits_restricted {alphabet = codes} {o = o} m a) = record { w = _; fits = fits_restricted m a; same = equal tt; octets = o; contents = of_restricted (whole (small_text o codes m sound.0.below_128)) refl; few = omega arith }
