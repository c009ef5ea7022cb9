-- The octets of bits.
use Rattle.std.proofs.Common.{arith, ◌≡◌, ℕ, zero, suc, ◌+◌, ◌-◌, ◌*◌, ◌<◌, ◌≤◌, Bool, true, false, List, [], ◌∷◌, ◌++◌, length, take, replicate, refl, sym, subst, ap, ◌∙◌, append_assoc}
use Rattle.std.specs.Prelude.{flat_map}
use Rattle.std.specs.Int.Digits.{AllBelowBase}
use Rattle.std.proofs.lemmas.List.{length-append, append-nil}
use Rattle.asn_base.specs.Abstract.{bits_of_octet}
use Rattle.encodings.specs.Contents.{EndsInOne}
use Rattle.primitive_writer.specs.Ends.{EndsAt, FilledPieces, Front, TrimmedPieces}

abbrev all_bits : List ℕ → List Bool
all_bits = flat_map bits_of_octet

bits_append : (xs ys : List ℕ) → all_bits (xs ++ ys) ≡ all_bits xs ++ all_bits ys
bits_append [] ys = refl
bits_append (x ∷ xs) ys = ap (λ q. bits_of_octet x ++ q) (bits_append xs ys) ∙ sym (append_assoc (bits_of_octet x) (all_bits xs) (all_bits ys))

-- the bits of some octets and one more
one_more : (xs : List ℕ) (x : ℕ) → all_bits (xs ++ x ∷ []) ≡ all_bits xs ++ bits_of_octet x
one_more xs x = bits_append xs (x ∷ []) ∙ ap (λ q. all_bits xs ++ q) (append-nil (bits_of_octet x))

eight_each : (xs : List ℕ) → length (all_bits xs) ≡ 8 * length xs
eight_each [] = refl
eight_each (x ∷ xs) =
    let e : length (all_bits (x ∷ xs)) ≡ 8 + length (all_bits xs) = length-append (bits_of_octet x) (all_bits xs) in
    let h = eight_each xs in
    omega arith

take_after : (xs ys : List Bool) (n : ℕ) → take (length xs + n) (xs ++ ys) ≡ xs ++ take n ys
take_after [] ys n = ap (λ k. take k ys) (let e : 0 + n ≡ n = omega arith in e)
take_after (x ∷ xs) ys n = ap (λ k. take k (x ∷ (xs ++ ys))) (let e : suc (length xs) + n ≡ suc (length xs + n) = omega arith in e) ∙ ap (λ q. x ∷ q) (take_after xs ys n)

zeros_length : (n : ℕ) → length (replicate n false) ≡ n
zeros_length zero = refl
zeros_length (suc n) = ap suc (zeros_length n)

below_append : (xs ys : List ℕ) → AllBelowBase 256 xs → AllBelowBase 256 ys → AllBelowBase 256 (xs ++ ys)
below_append [] ys a b = b
below_append (x ∷ xs) ys a b = (a.0, below_append xs ys a.1 b)

-- octets whose last bits are zeros
pub filled_by : (s : List Bool) (n : ℕ) (os x : List ℕ) → n < 8 → AllBelowBase 256 os → all_bits os ≡ s ++ replicate n false → x ≡ n ∷ os → FilledPieces s x
filled_by s n os x few below is e = record {
  whole = record { unused = n; octets = os; filling = replicate n false; few = few; are_octets = below; is = e; bits = is; as_many = zeros_length n };
  filled = (n, os, e, is);
}

-- the bits of octets, without the unused ones of the last octet, in which these are cleared
pub cleared_bits : (os front : List ℕ) (last clear n : ℕ) → os ≡ front ++ last ∷ [] → n < 8 → bits_of_octet clear ≡ take (8 - n) (bits_of_octet last) ++ replicate n false → all_bits (front ++ clear ∷ []) ≡ take (8 * length os - n) (all_bits os) ++ replicate n false
cleared_bits os front last clear n e few is =
    let l : length os ≡ length front + 1 = ap length e ∙ length-append front (last ∷ []) in
    let k : 8 * length os - n ≡ length (all_bits front) + (8 - n) = omega (arith, l, few, eight_each front) in
    let t : take (8 * length os - n) (all_bits os) ≡ all_bits front ++ take (8 - n) (bits_of_octet last) =
    ap (λ q. take (8 * length os - n) (all_bits q)) e
    ∙ ap (λ q. take (8 * length os - n) q) (one_more front last)
    ∙ ap (λ q. take q (all_bits front ++ bits_of_octet last)) k
    ∙ take_after (all_bits front) (bits_of_octet last) (8 - n)
    in
    one_more front clear
    ∙ ap (λ q. all_bits front ++ q) is
    ∙ sym (append_assoc (all_bits front) (take (8 - n) (bits_of_octet last)) (replicate n false))
    ∙ ap (λ q. q ++ replicate n false) (sym t)

pub filled_pieces : (os front x : List ℕ) (last clear n : ℕ) → os ≡ front ++ last ∷ [] → n < 8 → bits_of_octet clear ≡ take (8 - n) (bits_of_octet last) ++ replicate n false → AllBelowBase 256 front → clear < 256 → x ≡ n ∷ (front ++ clear ∷ []) → FilledPieces (take (8 * length os - n) (all_bits os)) x
filled_pieces os front x last clear n e few is below small f =
    filled_by _ n (front ++ clear ∷ []) x few (below_append front (clear ∷ []) below (small, tt)) (cleared_bits os front last clear n e few is) f

pub no_bits_left : (os : List ℕ) (n : ℕ) → length os ≡ 0 → take (8 * length os - n) (all_bits os) ≡ []
no_bits_left [] n l = take_none (8 * 0 - n)
  where
    take_none : (k : ℕ) → take {A = Bool} k [] ≡ []
    take_none zero = refl
    take_none (suc k) = refl
no_bits_left (o ∷ os) n l = absurd (omega arith)

-- ---- bits that end in one

some_bit : (t : List Bool) (b : Bool) → 1 ≤ length (t ++ b ∷ [])
some_bit [] b = omega arith
some_bit (x ∷ t) b = omega arith

ends_empty : EndsInOne []
ends_empty t e = let l = ap length e in omega (arith, l, some_bit t false)

abbrev head_bit : List Bool → Bool
head_bit [] = false
head_bit (b ∷ bs) = b

abbrev tail_bits : List Bool → List Bool
tail_bits [] = []
tail_bits (b ∷ bs) = bs

pub ends_after : (s : List Bool) → EndsInOne (s ++ true ∷ [])
ends_after [] [] e = let h : true ≡ false = ap head_bit e in cc
ends_after [] (x ∷ t) e = let l = ap length e in omega (arith, l, some_bit t false)
ends_after (b ∷ s) [] e = let l = ap length e in omega (arith, l, some_bit s true)
ends_after (b ∷ s) (x ∷ t) e = ends_after s t (ap tail_bits e)

-- octets that end in one that isn't zero
pub ended_pieces : (front x : List ℕ) (last n : ℕ) → EndsAt last n → AllBelowBase 256 front → last < 256 → x ≡ n ∷ (front ++ last ∷ []) → TrimmedPieces (all_bits (front ++ last ∷ [])) x
ended_pieces front x last n a below small e =
    let w = take (7 - n) (bits_of_octet last) in
    let is : all_bits (front ++ last ∷ []) ≡ (all_bits front ++ (w ++ true ∷ [])) ++ replicate n false =
    one_more front last
    ∙ ap (λ q. all_bits front ++ q) (a.is ∙ sym (append_assoc w (true ∷ []) (replicate n false)))
    ∙ sym (append_assoc (all_bits front) (w ++ true ∷ []) (replicate n false))
    in
    record {
      bits = all_bits front ++ (w ++ true ∷ []);
      more = 0;
      zeros = n;
      same = append-nil (all_bits (front ++ last ∷ [])) ∙ is;
      ends = subst EndsInOne (append_assoc (all_bits front) w (true ∷ [])) (ends_after (all_bits front ++ w));
      pieces = filled_by _ n (front ++ last ∷ []) x a.few (below_append front (last ∷ []) below (small, tt)) is e;
    }

pub none_ended : (s : List Bool) (x : List ℕ) (n : ℕ) → s ≡ replicate n false → x ≡ 0 ∷ [] → TrimmedPieces s x
none_ended s x n e f = record {
  bits = [];
  more = 0;
  zeros = n;
  same = append-nil s ∙ e;
  ends = ends_empty;
  pieces = filled_by [] 0 [] x (omega arith) tt refl f;
}

-- ---- trailing zeros

zeros_more : (m n : ℕ) → replicate (m + n) false ≡ replicate m false ++ replicate n false
zeros_more zero n = ap (λ k. replicate k false) (let e : 0 + n ≡ n = omega arith in e)
zeros_more (suc m) n = ap (λ k. replicate k false) (let e : suc m + n ≡ suc (m + n) = omega arith in e) ∙ ap (λ q. false ∷ q) (zeros_more m n)

zero_octets : (n : ℕ) → all_bits (replicate n 0) ≡ replicate (8 * n) false
zero_octets zero = refl
zero_octets (suc n) = ap (λ q. bits_of_octet 0 ++ q) (zero_octets n) ∙ sym (zeros_more 8 (8 * n)) ∙ ap (λ k. replicate k false) (let e : 8 + 8 * n ≡ 8 * suc n = omega arith in e)

-- bits are alike with zeros after them
pub more_after : (s t : List Bool) (x : List ℕ) (n : ℕ) → s ≡ t ++ replicate n false → TrimmedPieces t x → TrimmedPieces s x
more_after s t x n e p = record {
  bits = p.bits;
  more = p.more;
  zeros = p.zeros + n;
  same =
      ap (λ q. q ++ replicate p.more false) e
      ∙ append_assoc t (replicate n false) (replicate p.more false)
      ∙ ap (λ q. t ++ q) (sym (zeros_more n p.more) ∙ ap (λ k. replicate k false) (let f : n + p.more ≡ p.more + n = omega arith in f) ∙ zeros_more p.more n)
      ∙ sym (append_assoc t (replicate p.more false) (replicate n false))
      ∙ ap (λ q. q ++ replicate n false) p.same
      ∙ append_assoc p.bits (replicate p.zeros false) (replicate n false)
      ∙ ap (λ q. p.bits ++ q) (sym (zeros_more p.zeros n));
  ends = p.ends;
  pieces = p.pieces;
}

-- and so they are without
pub fewer_after : (s t : List Bool) (x : List ℕ) (n : ℕ) → t ≡ s ++ replicate n false → TrimmedPieces t x → TrimmedPieces s x
fewer_after s t x n e p = record {
  bits = p.bits;
  more = n + p.more;
  zeros = p.zeros;
  same =
      ap (λ q. s ++ q) (zeros_more n p.more)
      ∙ sym (append_assoc s (replicate n false) (replicate p.more false))
      ∙ ap (λ q. q ++ replicate p.more false) (sym e)
      ∙ p.same;
  ends = p.ends;
  pieces = p.pieces;
}

-- octets before zero octets and a last one, which is zero too
pub zeros_after_front : (os kept : List ℕ) (last : ℕ) (f : Front os kept) → last ≡ 0 → all_bits (os ++ last ∷ []) ≡ all_bits kept ++ replicate (8 * f.zeros + 8) false
zeros_after_front os kept last f z =
    one_more os last
    ∙ ap (λ q. all_bits q ++ bits_of_octet last) f.is
    ∙ ap (λ q. q ++ bits_of_octet last) (bits_append kept (replicate f.zeros 0) ∙ ap (λ q. all_bits kept ++ q) (zero_octets f.zeros))
    ∙ ap (λ q. (all_bits kept ++ replicate (8 * f.zeros) false) ++ bits_of_octet q) z
    ∙ append_assoc (all_bits kept) (replicate (8 * f.zeros) false) (replicate 8 false)
    ∙ ap (λ q. all_bits kept ++ q) (sym (zeros_more (8 * f.zeros) 8))

pub kept_ended : (os kept front x : List ℕ) (last other : ℕ) → Front os kept → last ≡ 0 → kept ≡ front ++ other ∷ [] → TrimmedPieces (all_bits (front ++ other ∷ [])) x → TrimmedPieces (all_bits (os ++ last ∷ [])) x
kept_ended os kept front x last other f z e p = more_after _ _ x (8 * f.zeros + 8) (zeros_after_front os kept last f z ∙ ap (λ q. all_bits q ++ replicate (8 * f.zeros + 8) false) e) p

pub none_kept : (os kept x : List ℕ) (last : ℕ) → Front os kept → last ≡ 0 → length kept ≡ 0 → x ≡ 0 ∷ [] → TrimmedPieces (all_bits (os ++ last ∷ [])) x
none_kept os [] x last f z l e = none_ended _ x (8 * f.zeros + 8) (zeros_after_front os [] last f z) e
none_kept os (k ∷ ks) x last f z l e = absurd (omega arith)
