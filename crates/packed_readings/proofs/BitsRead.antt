-- Bits that fill octets.
use Rattle.std.proofs.Common.{arith, ◌≡◌, ℕ, zero, suc, ◌+◌, ◌-◌, ◌*◌, ◌/◌, ◌%◌, ◌^◌, ◌<◌, ◌≤◌, Bool, true, false, List, [], ◌∷◌, ◌++◌, length, replicate, refl, sym, ap, subst, ◌∙◌, append_assoc, length-append, ⊎_elim}
use Rattle.std.specs.Prelude.{flat_map, take, ◌==◌, not, Option}
use Rattle.std.specs.Int.Digits.{AllBelowBase}
use Rattle.std.proofs.lemmas.Bool.{cases_lt}
use Rattle.std.proofs.lemmas.List.{append-nil, length-replicate, take_at, length-take-le}
use Rattle.std.proofs.lemmas.Nat.{pow-add}
use Rattle.std.proofs.Math.Nat.{pow-succ', mul-le-mul_right, add-mul}
use Rattle.bits.specs.Words.{low_bits, octet_bits}
use Rattle.bits.specs.Left.{Took}
use Rattle.packed_encodings.specs.Lengths.{Bits, worth}
use Rattle.std.specs.Prelude.{Vec}
use Rattle.std.specs.declared.alloc.Global.{Global as Global'}
use Rattle.asn_base.specs.declared.value.BitString.{BitString}
use Rattle.asn_base.specs.Abstract.{bits_of_octet, bits_of}
use Rattle.decode_faults.specs.declared.refusal.Refusal.{Refusal}
use Rattle.packed_readings.specs.declared.refusal.PackedFault.{PackedFault}
use Rattle.packed_readings.specs.declared.bit_string.NextBits.{NextBits}
use Rattle.packed_readings.specs.declared.bit_string.NextBits.TheVariants as nexts
use Rattle.packed_readings.specs.Outcome.{Outcome, found, judging, IsFault}
use Rattle.packed_readings.specs.Composing.{found_value, not_both}
use Rattle.packed_readings.specs.Counts.{Count, last, part, count_from, total, parts_from, counted_from, several_bits}
use Rattle.packed_readings.specs.Leaves.{ends_in_zero}
use Rattle.packed_readings.specs.Code.{GainedBits, IsBitStep}
use Rattle.packed_encodings.specs.proving.Words.{word_length, worth_word}
use Rattle.packed_readings.proofs.Fields.{block_found, block_short, block_full, bits_read, worth_same}
use Rattle.packed_readings.proofs.Counted.{step_last, step_part, stated_shorter, IsSoFar, so_far_first, so_far_last, so_far_more, so_far_stops}
use Rattle.packed_readings.proofs.Judging.{worth_append}

octets_long : (o : List ℕ) → length (octet_bits o) ≡ 8 * length o
octets_long [] = refl
octets_long (x ∷ o) = let h = octets_long o in let a : length (low_bits 8 x ++ octet_bits o) ≡ length (low_bits 8 x) + length (octet_bits o) = length-append (low_bits 8 x) (octet_bits o) in let l = word_length 8 x in omega (arith, h, a, l)

octets_append : (o p : List ℕ) → octet_bits (o ++ p) ≡ octet_bits o ++ octet_bits p
octets_append [] p = refl
octets_append (x ∷ o) p = ap (λ q. low_bits 8 x ++ q) (octets_append o p) ∙ sym (append_assoc (low_bits 8 x) (octet_bits o) (octet_bits p))

worth_zeros : (n : ℕ) → worth (replicate n false) ≡ 0
worth_zeros zero = refl
worth_zeros (suc n) = let h = worth_zeros n in omega (arith, h)

word_shifted : (r u l : ℕ) → l < 2 ^ r → low_bits (r + u) (l * 2 ^ u) ≡ low_bits r l ++ replicate u false
word_shifted r u l h =
    let p : 2 ^ (r + u) ≡ 2 ^ r * 2 ^ u = pow-add 2 r u in
    let fits : l * 2 ^ u < 2 ^ (r + u) = below l (2 ^ r) (2 ^ u) h (one u) (2 ^ (r + u)) p in
    let long : length (low_bits r l ++ replicate u false) ≡ r + u = length-append (low_bits r l) (replicate u false) ∙ ap (λ q. q + length (replicate u false)) (word_length r l) ∙ ap (λ q. r + q) (length-replicate u false) in
    let w : worth (low_bits r l ++ replicate u false) ≡ l * 2 ^ u =
    worth_append (low_bits r l) (replicate u false) ∙ ap (λ q. worth (low_bits r l) * 2 ^ q + worth (replicate u false)) (length-replicate u false)
    ∙ ap (λ q. q * 2 ^ u + worth (replicate u false)) (worth_word r l h) ∙ ap (λ q. l * 2 ^ u + q) (worth_zeros u) ∙ omega arith in
    worth_same (low_bits (r + u) (l * 2 ^ u)) (low_bits r l ++ replicate u false) (word_length (r + u) (l * 2 ^ u) ∙ sym long) (worth_word (r + u) (l * 2 ^ u) fits ∙ sym w)
  where
    one : (u : ℕ) → 1 ≤ 2 ^ u
    one zero = omega arith
    one (suc u) = let h = one u in let p : 2 ^ suc u ≡ 2 * 2 ^ u = pow-succ' 2 u in omega (arith, h, p)

    below : (l a b : ℕ) → l < a → 1 ≤ b → (n : ℕ) → n ≡ a * b → l * b < n
    below l a b h k n e = let m = mul-le-mul_right b (let j : l + 1 ≤ a = omega (arith, h) in j) in let d = add-mul l 1 b in omega (arith, m, d, k, e)

bits_at_front : (n : ℕ) (x r : Bits) → length x ≡ n → several_bits n (x ++ r) ≡ found x r
bits_at_front n x r l = block_found n (λ x. x) x r l

pub bits_whole : (count : ℕ) (old new : List ℕ) (left after : Bits) → Took (count / 8) old new left after → count % 8 ≡ 0 → GainedBits (several_bits count left) old new 0 after
bits_whole count old new left after t e = record {
  values = octet_bits t.octets;
  is = ap (several_bits count) t.taken ∙ bits_at_front count (octet_bits t.octets) after (octets_long t.octets ∙ ap (λ q. 8 * q) t.many ∙ (let k : 8 * (count / 8) ≡ count = omega (arith, e) in k));
  few = omega arith;
  joined = ap octet_bits t.joined ∙ octets_append old t.octets ∙ ap (λ q. octet_bits old ++ q) (sym (append-nil (octet_bits t.octets)));
}

pub bits_rest : (count rest l : ℕ) (old mid new : List ℕ) (left between after : Bits) → Took (count / 8) old mid left between → rest ≡ count % 8 → (rest ≡ 0 → ⊥) → between ≡ low_bits rest l ++ after → l < 2 ^ rest → new ≡ mid ++ ((l * 2 ^ (8 - rest)) ∷ []) → GainedBits (several_bits count left) old new (8 - rest) after
bits_rest count rest l old mid new left between after t e n b h j = record {
  values = octet_bits t.octets ++ low_bits rest l;
  is =
      ap (several_bits count) (t.taken ∙ ap (λ q. octet_bits t.octets ++ q) b ∙ sym (append_assoc (octet_bits t.octets) (low_bits rest l) after))
      ∙ bits_at_front count (octet_bits t.octets ++ low_bits rest l) after long;
  few = omega (arith, n);
  joined =
      ap octet_bits (j ∙ ap (λ q. q ++ ((l * 2 ^ (8 - rest)) ∷ [])) t.joined ∙ append_assoc old t.octets ((l * 2 ^ (8 - rest)) ∷ []))
      ∙ octets_append old (t.octets ++ ((l * 2 ^ (8 - rest)) ∷ []))
      ∙ ap (λ q. octet_bits old ++ q)
      (octets_append t.octets ((l * 2 ^ (8 - rest)) ∷ []) ∙ ap (λ q. octet_bits t.octets ++ q) (append-nil (low_bits 8 (l * 2 ^ (8 - rest))) ∙ last)
      ∙ sym (append_assoc (octet_bits t.octets) (low_bits rest l) (replicate (8 - rest) false)));
}
  where
    long : length (octet_bits t.octets ++ low_bits rest l) ≡ count
    long =
        let a = length-append (octet_bits t.octets) (low_bits rest l) in
        let o = octets_long t.octets in
        let m = t.many in
        let w = word_length rest l in
        omega (arith, a, o, m, w, e)

    last : low_bits 8 (l * 2 ^ (8 - rest)) ≡ low_bits rest l ++ replicate (8 - rest) false
    last = ap (λ q. low_bits q (l * 2 ^ (8 - rest))) (let k : 8 ≡ rest + (8 - rest) = omega (arith, e) in k) ∙ word_shifted rest (8 - rest) l h

-- ---- as octets

octet_word : (n : ℕ) → n < 256 → bits_of_octet n ≡ low_bits 8 n
octet_word n l = ap (λ q. (q == 1) ∷ ((n / 64 % 2 == 1) ∷ ((n / 32 % 2 == 1) ∷ ((n / 16 % 2 == 1) ∷ ((n / 8 % 2 == 1) ∷ ((n / 4 % 2 == 1) ∷ ((n / 2 % 2 == 1) ∷ ((n % 2 == 1) ∷ [])))))))) (let k : n / 128 ≡ n / 128 % 2 = omega (arith, l) in k)
    ∙ ap (λ q. (n / 128 % 2 == 1) ∷ ((n / 64 % 2 == 1) ∷ ((n / 32 % 2 == 1) ∷ ((n / 16 % 2 == 1) ∷ ((n / 8 % 2 == 1) ∷ ((n / 4 % 2 == 1) ∷ ((n / 2 % 2 == 1) ∷ ((q % 2 == 1) ∷ [])))))))) (let k : n ≡ n / 1 = omega arith in k)

octets_words : (o : List ℕ) → AllBelowBase 256 o → flat_map bits_of_octet o ≡ octet_bits o
octets_words [] a = refl
octets_words (x ∷ o) a = ap (λ q. q ++ flat_map bits_of_octet o) (octet_word x a.0) ∙ ap (λ q. low_bits 8 x ++ q) (octets_words o a.1)

pub string_bits : (v : Bits) (o : List ℕ) (u : ℕ) → AllBelowBase 256 o → octet_bits o ≡ v ++ replicate u false → take (8 * length o - u) (flat_map bits_of_octet o) ≡ v
string_bits v o u a e =
    let l : length (octet_bits o) ≡ length v + u = ap length e ∙ length-append v (replicate u false) ∙ ap (λ q. length v + q) (length-replicate u false) in
    let m = octets_long o in
    ap (take (8 * length o - u)) (octets_words o a ∙ e) ∙ take_at v (replicate u false) (8 * length o - u) (omega (arith, l, m))

pub none_unused : (v : Bits) (o : List ℕ) (u : ℕ) → octet_bits o ≡ v ++ replicate u false → length o ≡ 0 → u ≡ 0
none_unused v o u e z =
    let l : length (octet_bits o) ≡ length v + u = ap length e ∙ length-append v (replicate u false) ∙ ap (λ q. length v + q) (length-replicate u false) in
    let m = octets_long o in
    omega (arith, l, m, z)

-- ---- bits of one number

values_long : (n : ℕ) (b r v : Bits) → several_bits n b ≡ found v r → length v ≡ n
values_long n b r v e = ⊎_elim
    (λ l. absurd (not_both (sym (block_short n (λ x. x) b l) ∙ e)))
    (λ l. ap length (sym (found_value (sym (block_full n (λ x. x) b l) ∙ e))) ∙ length-take-le n b l)
    (cases_lt (length b) n)

bits_shorter : (n : ℕ) (b r v : Bits) → several_bits n b ≡ found v r → length r ≤ length b
bits_shorter n b r v e =
    let s = (bits_read n).sound b r v e in
    let l = ap length s.2 in
    let a : length (s.0 ++ r) ≡ length s.0 + length r = length-append s.0 r in
    omega (arith, l, a)

part_whole : (n u : ℕ) (b r : Bits) (old new : List ℕ) → n % 8 ≡ 0 → GainedBits (several_bits n b) old new u r → (v : Bits) × (several_bits n b ≡ found v r) × (octet_bits new ≡ octet_bits old ++ v)
part_whole n u b r old new z g =
    let k = values_long n b r g.values g.is in
    let o = octets_long old in
    let p = octets_long new in
    let l : length (octet_bits new) ≡ length (octet_bits old) + (length g.values + u) = ap length g.joined ∙ length-append (octet_bits old) (g.values ++ replicate u false) ∙ ap (λ q. length (octet_bits old) + q) (length-append g.values (replicate u false) ∙ ap (λ q. length g.values + q) (length-replicate u false)) in
    let f = g.few in
    let none : u ≡ 0 = omega (arith, k, o, p, l, f, z) in
    (g.values, g.is, g.joined ∙ ap (λ q. octet_bits old ++ q) (ap (λ q. g.values ++ replicate q false) none ∙ append-nil g.values))

module _ (test : ℕ → Option Refusal) (full : Bool) (old new : List ℕ) where
  abbrev Stated : Bits → Outcome Count
  Stated = judging (total test (length (octet_bits old))) (count_from full)

  pub bit_step_last : (b m r : Bits) (n u : ℕ) → Stated b ≡ found (last n) m → GainedBits (several_bits n m) old new u r → IsBitStep test full old new (nexts.Nothing u) b r
  bit_step_last b m r n u e g =
      let s = stated_shorter test several_bits full (octet_bits old) b m (last n) e in
      let t = bits_shorter n m r g.values g.is in (
        g.values,
        λ k. step_last test several_bits full (octet_bits old) b m r n (octet_bits old ++ g.values) k e (record { values = g.values; is = g.is; joined = refl }),
        g.few,
        g.joined,
        omega (arith, s, t),
      )

  pub bit_step_part : (b m r : Bits) (n u : ℕ) → Stated b ≡ found (part n) m → GainedBits (several_bits (16384 * n) m) old new u r → IsBitStep test full old new (nexts.More (n == 4)) b r
  bit_step_part b m r n u e g =
      let p = part_whole (16384 * n) u m r old new (omega arith) g in
      let s = stated_shorter test several_bits full (octet_bits old) b m (part n) e in
      let t = bits_shorter (16384 * n) m r p.0 p.1 in (
        λ k. step_part test several_bits full (octet_bits old) b m r n (octet_bits new) k e (record { values = p.0; is = p.1; joined = p.2 }),
        omega (arith, s, t),
      )

pub before_long : (o : List ℕ) (d : ℕ) → d ≡ 8 * length o → d ≡ length (octet_bits o)
before_long o d e = e ∙ sym (octets_long o)

-- ---- number after number

-- what is known of the whole, whether more comes or not
abbrev pub AreSoFar : (ℕ → Option Refusal) → Outcome Bits → (more full : Bool) → (octets : List ℕ) → (unused : ℕ) → Bits → Type 0
AreSoFar test whole true full o u b = IsSoFar test several_bits whole true full (octet_bits o) b
AreSoFar test whole false full o u b = (v : Bits) × (whole ≡ found v b) × (u < 8) × (octet_bits o ≡ v ++ replicate u false)

module _ (test : ℕ → Option Refusal) where
  pub bits_first : (b : Bits) (o : List ℕ) (u : ℕ) → o ≡ [] → AreSoFar test (counted_from test several_bits b) true true o u b
  bits_first b o u e = so_far_first test several_bits b (octet_bits o) (ap octet_bits e)

  here : (whole : Outcome Bits) (more full : Bool) (o : List ℕ) (u : ℕ) (b : Bits) → more ≡ true → AreSoFar test whole more full o u b → IsSoFar test several_bits whole true full (octet_bits o) b
  here whole more full o u b e s = subst (λ q. AreSoFar test whole q full o u b) e s

  pub bits_last : (whole : Outcome Bits) (more full : Bool) (o p : List ℕ) (u w : ℕ) (b r : Bits) → more ≡ true → AreSoFar test whole more full o u b → IsBitStep test full o p (nexts.Nothing w) b r → AreSoFar test whole false full p w r
  bits_last whole more full o p u w b r m s t = (
    octet_bits o ++ t.0,
    so_far_last test several_bits whole true full (octet_bits o) (octet_bits o ++ t.0) b r refl (here whole more full o u b m s) t.1,
    t.2,
    t.3 ∙ sym (append_assoc (octet_bits o) t.0 (replicate w false)),
  )

  pub bits_more : (whole : Outcome Bits) (more full next : Bool) (o p : List ℕ) (u : ℕ) (b r : Bits) → more ≡ true → AreSoFar test whole more full o u b → IsBitStep test full o p (nexts.More next) b r → AreSoFar test whole more next p u r
  bits_more whole more full next o p u b r m s t = subst (λ q. AreSoFar test whole q next p u r) (sym m) (so_far_more test several_bits whole true full next (octet_bits o) (octet_bits p) b r refl (here whole more full o u b m s) t.0 t.1)

  pub bits_stop : (whole : Outcome Bits) (more full : Bool) (o : List ℕ) (u : ℕ) (b r : Bits) (e : PackedFault) → more ≡ true → AreSoFar test whole more full o u b → ((k : ℕ) → IsFault (parts_from (suc k) test several_bits full (octet_bits o) b) e r) → IsFault whole e r
  bits_stop whole more full o u b r e m s f = so_far_stops test several_bits whole true full (octet_bits o) b r e refl (here whole more full o u b m s) f

  done : (whole : Outcome Bits) (more full : Bool) (o : List ℕ) (u : ℕ) (b : Bits) → more ≡ false → AreSoFar test whole more full o u b → AreSoFar test whole false full o u b
  done whole more full o u b e s = subst (λ q. AreSoFar test whole q full o u b) e s

  pub bits_done : (whole : Outcome Bits) (more full : Bool) (o : List ℕ) (u : ℕ) (b : Bits) → more ≡ false → AreSoFar test whole more full o u b → AllBelowBase 256 o → whole ≡ found (take (8 * length o - u) (flat_map bits_of_octet o)) b
  bits_done whole more full o u b e s a = let t = done whole more full o u b e s in t.1 ∙ ap (λ q. found q b) (sym (string_bits t.0 o u a t.3))

  pub few_done : (whole : Outcome Bits) (more full : Bool) (o : List ℕ) (u : ℕ) (b : Bits) → more ≡ false → AreSoFar test whole more full o u b → u < 8
  few_done whole more full o u b e s = (done whole more full o u b e s).2

  pub none_done : (whole : Outcome Bits) (more full : Bool) (o : List ℕ) (u : ℕ) (b : Bits) → more ≡ false → AreSoFar test whole more full o u b → length o ≡ 0 → u ≡ 0
  none_done whole more full o u b e s z = let t = done whole more full o u b e s in none_unused t.0 o u t.3 z

pub next_is : (test : ℕ → Option Refusal) (full : Bool) (o p : List ℕ) (n m : NextBits) (b r : Bits) → n ≡ m → IsBitStep test full o p n b r → IsBitStep test full o p m b r
next_is test full o p n m b r e s = subst (λ q. IsBitStep test full o p q b r) e s

-- bits at once
pub at_once_bits : (n u : ℕ) (b r : Bits) (old new : List ℕ) → old ≡ [] → GainedBits (several_bits n b) old new u r → AllBelowBase 256 new → several_bits n b ≡ found (take (8 * length new - u) (flat_map bits_of_octet new)) r
at_once_bits n u b r old new e g a = g.is ∙ ap (λ q. found q r) (sym (string_bits g.values new u a (g.joined ∙ ap (λ q. octet_bits q ++ (g.values ++ replicate u false)) e)))

pub at_once_none : (n u : ℕ) (b r : Bits) (old new : List ℕ) → old ≡ [] → GainedBits (several_bits n b) old new u r → length new ≡ 0 → u ≡ 0
at_once_none n u b r old new e g z = none_unused g.values new u (g.joined ∙ ap (λ q. octet_bits q ++ (g.values ++ replicate u false)) e) z

pub rest_left : (count : ℕ) (old new : List ℕ) (left after : Bits) → Took (count / 8) old new left after → count ≤ length left → count % 8 ≤ length after
rest_left count old new left after t l =
    let k = ap length t.taken in
    let a : length (octet_bits t.octets ++ after) ≡ length (octet_bits t.octets) + length after = length-append (octet_bits t.octets) after in
    let o = octets_long t.octets in
    let m = t.many in
    omega (arith, k, a, o, m, l)

pub value_bits : (b : BitString) (o : Vec ℕ Global') (u : ℕ) → b.octets ≡ o → b.unused ≡ u → take (8 * length o.items - u) (flat_map bits_of_octet o.items) ≡ bits_of b
value_bits b o u e f = ap (λ q. take (8 * length q.items - u) (flat_map bits_of_octet q.items)) (sym e) ∙ ap (λ q. take (8 * length b.octets.items - q) (flat_map bits_of_octet b.octets.items)) (sym f)

-- ---- the last bit

ends_append : (x : Bits) (b : Bool) → ends_in_zero (x ++ (b ∷ [])) ≡ not b
ends_append [] b = refl
ends_append (a ∷ []) b = refl
ends_append (a ∷ d ∷ x) b = ends_append (d ∷ x) b

flat_last : (o : List ℕ) (n : ℕ) → flat_map bits_of_octet (o ++ (n ∷ [])) ≡ flat_map bits_of_octet o ++ bits_of_octet n
flat_last [] n = append-nil (bits_of_octet n)
flat_last (x ∷ o) n = ap (λ q. bits_of_octet x ++ q) (flat_last o n) ∙ sym (append_assoc (bits_of_octet x) (flat_map bits_of_octet o) (bits_of_octet n))

flat_long : (o : List ℕ) → length (flat_map bits_of_octet o) ≡ 8 * length o
flat_long [] = refl
flat_long (x ∷ o) = let h = flat_long o in let a : length (bits_of_octet x ++ flat_map bits_of_octet o) ≡ 8 + length (flat_map bits_of_octet o) = length-append (bits_of_octet x) (flat_map bits_of_octet o) in omega (arith, h, a)

take_over : (x y : Bits) (n k : ℕ) → n ≡ length x + k → take n (x ++ y) ≡ x ++ take k y
take_over [] y n k e = ap (λ q. take q y) (let h : n ≡ k = omega (arith, e) in h)
take_over (b ∷ x) y zero k e = absurd (omega (arith, e))
take_over (b ∷ x) y (suc n) k e = ap (λ q. b ∷ q) (take_over x y n k (omega (arith, e)))

record LastOf (x : Bits) (b : Bool) : Type 0 where
  front : Bits
  is : x ≡ front ++ (b ∷ [])

cut : (n u : ℕ) → u < 8 → n < 256 → LastOf (take (8 - u) (bits_of_octet n)) (n / 2 ^ u % 2 == 1)
cut n zero l h = record { front = (n / 128 == 1) ∷ ((n / 64 % 2 == 1) ∷ ((n / 32 % 2 == 1) ∷ ((n / 16 % 2 == 1) ∷ ((n / 8 % 2 == 1) ∷ ((n / 4 % 2 == 1) ∷ ((n / 2 % 2 == 1) ∷ [])))))); is = ap (λ q. (n / 128 == 1) ∷ ((n / 64 % 2 == 1) ∷ ((n / 32 % 2 == 1) ∷ ((n / 16 % 2 == 1) ∷ ((n / 8 % 2 == 1) ∷ ((n / 4 % 2 == 1) ∷ ((n / 2 % 2 == 1) ∷ ((q % 2 == 1) ∷ [])))))))) (let k : n ≡ n / 1 = omega arith in k) }
cut n (suc zero) l h = record { front = (n / 128 == 1) ∷ ((n / 64 % 2 == 1) ∷ ((n / 32 % 2 == 1) ∷ ((n / 16 % 2 == 1) ∷ ((n / 8 % 2 == 1) ∷ ((n / 4 % 2 == 1) ∷ []))))); is = refl }
cut n (suc (suc zero)) l h = record { front = (n / 128 == 1) ∷ ((n / 64 % 2 == 1) ∷ ((n / 32 % 2 == 1) ∷ ((n / 16 % 2 == 1) ∷ ((n / 8 % 2 == 1) ∷ [])))); is = refl }
cut n (suc (suc (suc zero))) l h = record { front = (n / 128 == 1) ∷ ((n / 64 % 2 == 1) ∷ ((n / 32 % 2 == 1) ∷ ((n / 16 % 2 == 1) ∷ []))); is = refl }
cut n (suc (suc (suc (suc zero)))) l h = record { front = (n / 128 == 1) ∷ ((n / 64 % 2 == 1) ∷ ((n / 32 % 2 == 1) ∷ [])); is = refl }
cut n (suc (suc (suc (suc (suc zero))))) l h = record { front = (n / 128 == 1) ∷ ((n / 64 % 2 == 1) ∷ []); is = refl }
cut n (suc (suc (suc (suc (suc (suc zero)))))) l h = record { front = (n / 128 == 1) ∷ []; is = refl }
cut n (suc (suc (suc (suc (suc (suc (suc zero))))))) l h = record { front = []; is = ap (λ q. (q == 1) ∷ []) (let k : n / 128 ≡ n / 128 % 2 = omega (arith, h) in k) }
cut n (suc (suc (suc (suc (suc (suc (suc (suc u)))))))) l h = absurd (omega (arith, l))

pub last_bit : (o front : List ℕ) (n u : ℕ) (b : Bool) → u < 8 → AllBelowBase 256 o → o ≡ front ++ (n ∷ []) → b ≡ (n / 2 ^ u % 2 == 1) → not b ≡ ends_in_zero (take (8 * length o - u) (flat_map bits_of_octet o))
last_bit o front n u b l a e f =
    let f8 = flat_long front in
    let lo : length o ≡ length front + 1 = ap length e ∙ length-append front (n ∷ []) in
    let c = cut n u l (below front n (subst (AllBelowBase 256) e a)) in
    ap not f
    ∙ sym (ends_append (flat_map bits_of_octet front ++ c.front) (n / 2 ^ u % 2 == 1))
    ∙ ap ends_in_zero (append_assoc (flat_map bits_of_octet front) c.front ((n / 2 ^ u % 2 == 1) ∷ []) ∙ ap (λ q. flat_map bits_of_octet front ++ q) (sym c.is)
    ∙ sym (take_over (flat_map bits_of_octet front) (bits_of_octet n) (8 * length o - u) (8 - u) (omega (arith, f8, lo, l)))
    ∙ ap (take (8 * length o - u)) (sym (flat_last front n) ∙ ap (flat_map bits_of_octet) (sym e)))
  where
    below : (front : List ℕ) (n : ℕ) → AllBelowBase 256 (front ++ (n ∷ [])) → n < 256
    below [] n a = a.0
    below (x ∷ front) n a = below front n a.1

pub no_last_bit : (o : List ℕ) (u : ℕ) → length o ≡ 0 → false ≡ ends_in_zero (take (8 * length o - u) (flat_map bits_of_octet o))
no_last_bit [] u e = none (8 * 0 - u)
  where
    none : (n : ℕ) → false ≡ ends_in_zero (take n [])
    none zero = refl
    none (suc n) = refl
no_last_bit (x ∷ o) u e = absurd (omega (arith, e))
