-- Octets of an open type, and where a fault within them is.
use Rattle.std.proofs.Common.{arith, ◌≡◌, ℕ, ◌+◌, ◌*◌, ◌-◌, ◌<◌, ◌≤◌, [], ◌∷◌, ◌++◌, length, drop, refl, sym, ap, ◌∙◌, append_assoc, length-append}
use Rattle.std.specs.Prelude.{if◌then◌else◌, nat_lt}
use Rattle.std.proofs.lemmas.Bool.{lt-ltb, le-ltb}
use Rattle.bits.specs.Words.{low_bits, octet_bits}
use Rattle.encodings.specs.Header.{Octets}
use Rattle.packed_encodings.specs.Lengths.{Bits, Items, all_bits, Counted, short, long, fragment, CountedOctets}
use Rattle.packed_readings.specs.Outcome.{IsReading, found}
use Rattle.packed_readings.specs.Counts.{octets_from}
use Rattle.packed_reader.specs.Structures.{contents_from}
use Rattle.packed_reader.proofs.Opening.{all_octets, contents_read, octets_length, together, used_length}

all_joined : (xs ys : Items) → length (all_bits (xs ++ ys)) ≡ length (all_bits xs) + length (all_bits ys)
all_joined [] ys = (let k : length (all_bits ys) ≡ 0 + length (all_bits ys) = omega arith in k)
all_joined (x ∷ xs) ys =
    let i = all_joined xs ys in
    let a = length-append x (all_bits (xs ++ ys)) in
    let b = length-append x (all_bits xs) in
    omega (arith, i, a, b)

counted_longer : {xs : Items} {b : Bits} → Counted xs b → length (all_bits xs) < length b
counted_longer (short {xs} l) = let a = length-append (low_bits 7 (length xs)) (all_bits xs) in omega (arith, a)
counted_longer (long {xs} l m) = let a = length-append (low_bits 14 (length xs)) (all_bits xs) in omega (arith, a)
counted_longer (fragment m xs ys {b} some few many great c) =
    let i = counted_longer c in
    let j = all_joined xs ys in
    let a = length-append (low_bits 6 m) (all_bits xs ++ b) in
    let d = length-append (all_bits xs) b in
    omega (arith, i, j, a, d)

module _ (octets : IsReading CountedOctets octets_from) where
  pub octets_shorter : (b r : Bits) (o : Octets) → octets_from b ≡ found o r → 8 * length o + length r < length b
  octets_shorter b r o e =
      let s = octets.sound b r o e in
      let l = ap length s.2 in
      let a = length-append s.0 r in
      let c = counted_longer s.1.counted in
      let d = ap length (all_octets o) in
      let m = octets_length o in
      omega (arith, l, a, c, d, m)

  dropped : (x s : Bits) (n : ℕ) → n ≡ length (x ++ s) - length s → drop n (x ++ s) ≡ s
  dropped x s n e = ap (λ k. drop k (x ++ s)) (e ∙ used_length x s) ∙ past x
    where
      past : (y : Bits) → drop (length y) (y ++ s) ≡ s
      past [] = refl
      past (c ∷ y) = past y

  pub place_before : (b r y z p : Bits) (o : Octets) (n : ℕ) → n < 16384 → contents_from b ≡ found o r → length o ≡ n → octet_bits o ≡ y ++ z → p ≡ drop (length b - (length z + length r)) b → p ≡ (if nat_lt n 16384 then z ++ r else r)
  place_before b r y z p o n l e m h d =
      let s = (contents_read octets).sound b r o e in
      let t = together o (let k : length o < 16384 = omega (arith, l, m) in k) s.1.counted in
      let w : b ≡ (t.0 ++ y) ++ (z ++ r) = s.2 ∙ ap (λ q. q ++ r) (t.1 ∙ ap (λ q. t.0 ++ q) h) ∙ append_assoc t.0 (y ++ z) r ∙ ap (λ q. t.0 ++ q) (append_assoc y z r) ∙ sym (append_assoc t.0 y (z ++ r)) in
      let a = length-append z r in
      d ∙ ap (λ q. drop (length q - (length z + length r)) q) w
      ∙ dropped (t.0 ++ y) (z ++ r) (length ((t.0 ++ y) ++ (z ++ r)) - (length z + length r)) (ap (λ q. length ((t.0 ++ y) ++ (z ++ r)) - q) (sym a))
      ∙ sym (ap (λ q. if q then z ++ r else r) (lt-ltb n 16384 l))

  pub place_after : (r z : Bits) (n : ℕ) → 16384 ≤ n → r ≡ (if nat_lt n 16384 then z ++ r else r)
  place_after r z n l = sym (ap (λ q. if q then z ++ r else r) (le-ltb n 16384 l))
