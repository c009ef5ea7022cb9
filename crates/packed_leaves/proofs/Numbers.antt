-- Numbers between their bounds.
use Rattle.std.proofs.Common.{◌≡◌, ℕ, zero, suc, ◌<◌, ◌≤◌, ◌^◌, ◌⊎◌, true, false, [], ◌∷◌, ◌++◌, length, map, refl, sym, ap, subst, ◌∙◌, arith, append_assoc, inl, inr}
use Rattle.std.proofs.lemmas.Int.{ints}
use Rattle.std.proofs.lemmas.Int.Digits.{length-digits_of-le, length-digits_of_step, all_below_base_digits_of}
use Rattle.std.specs.Prelude.{Some, None, ℤ, pos, ◌+ℤ◌, ◌-ℤ◌, ◌≤ℤ◌, nat_abs, IfSome}
use Rattle.std.specs.Int.Digits.{digits_of, AllBelowBase}
use Rattle.bits.specs.Words.{low_bits}
use Rattle.asn_base.specs.Types.{Bounds}
use Rattle.encodings.specs.Header.{Octets}
use Rattle.packed_encodings.specs.Computed.{at_least_one}
use Rattle.packed_encodings.specs.Lengths.{Bits, fewest_bits, IsInRootBounds, Counted}
use Rattle.packed_encodings.specs.Numbers.{FewestUnsigned, IntegerInRoot, between, from_least, unbounded, Integer, integer_bounded, integer_in_root, integer_outside}
use Rattle.packed_counts.specs.Counts.{Adds}
use Rattle.packed_leaves.specs.proving.Contents.{AddsNumber, AddsUnsigned}
use Rattle.packed_encodings.specs.proving.Bounding.{above, far_is}

-- ---- how far one number is above another

-- the number is that far above the other one
pub at_distance : (l v : ℤ) → l ≤ℤ v → v ≡ l +ℤ pos (nat_abs (v -ℤ l))
at_distance l v h = let r = above l v h in r.1 ∙ ap (λ q. l +ℤ pos q) (sym (far_is l v r.0 r.1))

pos_le : (l v g : ℤ) (m n : ℕ) → v ≡ l +ℤ pos n → g ≡ l +ℤ pos m → v ≤ℤ g → n ≤ m
pos_le l v g m n e f h = omega (arith, ints)

-- ---- the root

least_below : (z : Bounds) (v l : ℤ) → IsInRootBounds z v → z.least ≡ Some l → l ≤ℤ v
least_below z v l h e = subst (λ o. IfSome o (λ l. l ≤ℤ v)) e h.0

greatest_above : (z : Bounds) (v g : ℤ) → IsInRootBounds z v → z.greatest ≡ Some g → v ≤ℤ g
greatest_above z v g h e = subst (λ o. IfSome o (λ g. v ≤ℤ g)) e h.1

pub in_both : (z : Bounds) (v l g : ℤ) (s w n : ℕ) (old new : Bits) → IsInRootBounds z v → z.least ≡ Some l → z.greatest ≡ Some g → s ≡ nat_abs (g -ℤ l) → w ≡ fewest_bits s → n ≡ nat_abs (v -ℤ l) → new ≡ old ++ low_bits w n → Adds (IntegerInRoot z v) old new
in_both z v l g s w n old new h el eg es ew en e =
    let lv = least_below z v l h el in
    let vg = greatest_above z v g h eg in
    let a = at_distance l v lv in
    let b = at_distance l g (omega (arith, ints, lv, vg)) in
    let c = pos_le l v g (nat_abs (g -ℤ l)) (nat_abs (v -ℤ l)) a b vg in
    record {
      bits = low_bits (fewest_bits (nat_abs (g -ℤ l))) (nat_abs (v -ℤ l));
      is = between l (nat_abs (g -ℤ l)) (nat_abs (v -ℤ l)) el (eg ∙ ap Some b) c a;
      whole = e ∙ ap (λ q. old ++ low_bits q n) (ew ∙ ap fewest_bits es) ∙ ap (λ q. old ++ low_bits (fewest_bits (nat_abs (g -ℤ l))) q) en;
    }

pub in_from : (z : Bounds) (v l : ℤ) (n : ℕ) (old new : Bits) → IsInRootBounds z v → z.least ≡ Some l → z.greatest ≡ None → n ≡ nat_abs (v -ℤ l) → AddsUnsigned n old new → Adds (IntegerInRoot z v) old new
in_from z v l n old new h el eg en a =
    record { bits = a.bits; is = from_least l n el eg (at_distance l v (least_below z v l h el) ∙ ap (λ q. l +ℤ pos q) (sym en)) a.is.1 a.is.2; whole = a.whole }

pub in_any : (z : Bounds) (v : ℤ) (old new : Bits) → IsInRootBounds z v → z.least ≡ None → AddsNumber v old new → Adds (IntegerInRoot z v) old new
in_any z v old new h el a = record { bits = a.bits; is = unbounded el h.1 a.is.1 a.is.2; whole = a.whole }

-- ---- the marker

pub plain : (z : Bounds) (v : ℤ) (old new : Bits) → z.extensible ≡ false → Adds (IntegerInRoot z v) old new → Adds (Integer z v) old new
plain z v old new e a = record { bits = a.bits; is = integer_bounded e a.is; whole = a.whole }

pub inside : (z : Bounds) (v : ℤ) (old mid new : Bits) → z.extensible ≡ true → mid ≡ old ++ (false ∷ []) → Adds (IntegerInRoot z v) mid new → Adds (Integer z v) old new
inside z v old mid new e m a = record { bits = false ∷ a.bits; is = integer_in_root e a.is; whole = a.whole ∙ ap (λ q. q ++ a.bits) m ∙ append_assoc old (false ∷ []) a.bits }

pub outside : (z : Bounds) (v : ℤ) (old mid new : Bits) → z.extensible ≡ true → (IsInRootBounds z v → ⊥) → mid ≡ old ++ (true ∷ []) → AddsNumber v mid new → Adds (Integer z v) old new
outside z v old mid new e n m a = record { bits = true ∷ a.bits; is = integer_outside e n a.is.1 a.is.2; whole = a.whole ∙ ap (λ q. q ++ a.bits) m ∙ append_assoc old (true ∷ []) a.bits }

-- ---- numbers that aren't negative

pub zero_octet : (few : (n : ℕ) → FewestUnsigned n (at_least_one (digits_of 256 n))) (n : ℕ) (old new : Bits) → n ≡ 0 → Adds (Counted (map (low_bits 8) (0 ∷ []))) old new → AddsUnsigned n old new
zero_octet few n old new e a = record {
  bits = a.bits;
  is = (0 ∷ [], subst (λ q. FewestUnsigned q (0 ∷ [])) (sym e) (few 0), record { octets = (omega arith, tt); counted = a.is });
  whole = a.whole;
}

at_least : (ds : Octets) → 0 < length ds → at_least_one ds ≡ ds
at_least [] h = absurd (omega (arith, h))
at_least (d ∷ ds) h = refl

some_digits : (n : ℕ) (ds : Octets) → ds ≡ digits_of 256 n → (0 < length ds) ⊎ (ds ≡ [])
some_digits n [] e = inr refl
some_digits n (d ∷ ds) e = inl (omega arith)

pub digits_octets : (few : (n : ℕ) → FewestUnsigned n (at_least_one (digits_of 256 n))) (n : ℕ) (ds : Octets) (old new : Bits) → 0 < length (digits_of 256 n) → ds ≡ digits_of 256 n → Adds (Counted (map (low_bits 8) ds)) old new → AddsUnsigned n old new
digits_octets few n ds old new l e a = record {
  bits = a.bits;
  is = (ds, subst (λ q. FewestUnsigned n q) (at_least (digits_of 256 n) l ∙ sym e) (few n), record { octets = subst (AllBelowBase 256) (sym e) (all_below_base_digits_of 256 n (omega arith)); counted = a.is });
  whole = a.whole;
}

pub few_digits : (n : ℕ) → n < 2 ^ 128 → length (digits_of 256 n) ≤ 16
few_digits n h = length-digits_of-le 256 16 n (omega arith) h

pub some_digits_of : (n : ℕ) → (n ≡ 0 → ⊥) → 0 < length (digits_of 256 n)
some_digits_of n h = let p : 0 < n = positive n h in let e = length-digits_of_step 256 n (omega arith) p in omega (arith, e)
  where
    positive : (n : ℕ) → (n ≡ 0 → ⊥) → 0 < n
    positive zero h = absurd (h refl)
    positive (suc n) h = omega arith
