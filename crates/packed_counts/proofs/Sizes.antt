-- What SIZE asks before items.
use Rattle.std.proofs.Common.{◌≡◌, ℕ, ◌+◌, ◌-◌, ◌<◌, ◌≤◌, Bool, true, false, [], ◌∷◌, ◌++◌, refl, sym, ap, subst, ◌∙◌, arith, append_assoc, append-nil}
use Rattle.std.proofs.lemmas.Int.{ints}
use Rattle.std.specs.Prelude.{Some, None, ℤ, pos, negsuc, ◌+ℤ◌, ◌-ℤ◌, ◌<ℤ◌, ◌≤ℤ◌, nat_abs, IfSome}
use Rattle.bits.specs.Words.{low_bits}
use Rattle.asn_base.specs.Types.{Bounds}
use Rattle.packed_encodings.specs.Lengths.{Bits, fewest_bits, IsInRootBounds, IsNarrow, narrow, wide, sized, sized_in_root, sized_outside}
use Rattle.packed_encodings.specs.proving.Bounding.{far_is}
use Rattle.packed_counts.specs.Counts.{Adds, HasLeast, IsRootHead, IsHead}

some_same : {A : Type 0} {x y : A} → Some x ≡ Some y → x ≡ y
some_same e = cc

pos_plus : (l n : ℕ) → pos (l + n) ≡ pos l +ℤ pos n
pos_plus l n = omega (arith, ints)

pos_at_most : (m n : ℕ) → pos m ≤ℤ pos n → m ≤ n
pos_at_most m n h = omega (arith, ints, h)

-- a number that is at least another one that isn't negative
record Above (n : ℕ) (g : ℤ) : Type 0 where
  is : ℕ
  same : g ≡ pos is
  at_least : n ≤ is

above : (n : ℕ) (g : ℤ) → pos n ≤ℤ g → Above n g
above n (pos g) h = record { is = g; same = refl; at_least = pos_at_most n g h }
above n (negsuc g) h = absurd (omega (arith, ints, h))

within : (z : Bounds) (n : ℕ) (l : ℤ) → IsInRootBounds z (pos n) → z.least ≡ Some l → l ≤ℤ pos n
within z n l h e = subst (λ o. IfSome o (λ l. l ≤ℤ pos n)) e h.0

below : (z : Bounds) (n : ℕ) (g : ℤ) → IsInRootBounds z (pos n) → z.greatest ≡ Some g → pos n ≤ℤ g
below z n g h e = subst (λ o. IfSome o (λ g. pos n ≤ℤ g)) e h.1

less_pos : (u : ℕ) → pos u <ℤ pos 65536 → u < 65536
less_pos u h = omega (arith, ints, h)

split : (m n : ℕ) → m ≤ n → n ≡ m + (n - m)
split m n h = omega arith

pub narrow_head : (z : Bounds) (n w s d : ℕ) (l g : ℤ) (old new : Bits) → HasLeast z → IsInRootBounds z (pos n) → z.least ≡ Some l → z.greatest ≡ Some g → g <ℤ pos 65536 → d ≡ nat_abs (g -ℤ l) → w ≡ fewest_bits d → s ≡ nat_abs (pos n -ℤ l) → new ≡ old ++ low_bits w s → Adds (IsRootHead z n true) old new
narrow_head z n w s d l g old new k h el eg lt ed ew es en =
    let f : l ≡ pos k.0 = some_same (sym el ∙ k.1) in
    let a : k.0 ≤ n = pos_at_most k.0 n (subst (λ q. q ≤ℤ pos n) f (within z n l h el)) in
    let u = above n g (below z n g h eg) in
    let m = u.is - k.0 in
    let o = n - k.0 in
    let b = u.at_least in
    let gm : u.is ≡ k.0 + m = split k.0 u.is (omega (arith, a, b)) in
    let no : n ≡ k.0 + o = split k.0 n a in
    let gz : g ≡ pos (k.0 + m) = u.same ∙ ap pos gm in
    let dm : d ≡ m = ed ∙ ap (λ q. nat_abs (q -ℤ l)) gz ∙ ap (λ q. nat_abs (pos (k.0 + m) -ℤ q)) f ∙ far_is (pos k.0) (pos (k.0 + m)) m (pos_plus k.0 m) in
    let so : s ≡ o = es ∙ ap (λ q. nat_abs (pos n -ℤ q)) f ∙ ap (λ q. nat_abs (pos q -ℤ pos k.0)) no ∙ far_is (pos k.0) (pos (k.0 + o)) o (pos_plus k.0 o) in
    let few : k.0 + m < 65536 = let x = less_pos u.is (subst (λ q. q <ℤ pos 65536) u.same lt) in omega (arith, x, gm) in
    let om : o ≤ m = omega (arith, b, a) in
    record {
      bits = low_bits (fewest_bits m) o;
      is = record {
        once = λ t xs x. narrow k.0 m o k.1 (eg ∙ ap Some gz) few om (x ∙ no);
        counted = λ e xs c x y. absurd (cc);
      };
      whole = en ∙ ap (λ q. old ++ low_bits q s) (ew ∙ ap fewest_bits dm) ∙ ap (λ q. old ++ low_bits (fewest_bits m) q) so;
    }

wide_head : (z : Bounds) (n : ℕ) (old : Bits) → (IsNarrow z.greatest → ⊥) → IsInRootBounds z (pos n) → Adds (IsRootHead z n false) old old
wide_head z n old w h = record {
  bits = [];
  is = record {
    once = λ e xs x. absurd (cc);
    counted = λ e xs b x c. wide w (subst (λ q. IsInRootBounds z (pos q)) (sym x) h) c;
  };
  whole = sym (append-nil old);
}

pub no_greatest : (z : Bounds) (n : ℕ) (old : Bits) → z.greatest ≡ None → IsInRootBounds z (pos n) → Adds (IsRootHead z n false) old old
no_greatest z n old e h = wide_head z n old (λ w. subst IsNarrow e w) h

not_narrow : (g : ℤ) → (g <ℤ pos 65536 → ⊥) → IsNarrow (Some g) → ⊥
not_narrow (pos u) h w = h (omega (arith, ints, w))
not_narrow (negsuc u) h w = w

pub large_greatest : (z : Bounds) (n : ℕ) (g : ℤ) (old : Bits) → z.greatest ≡ Some g → (g <ℤ pos 65536 → ⊥) → IsInRootBounds z (pos n) → Adds (IsRootHead z n false) old old
large_greatest z n g old e l h = wide_head z n old (λ w. not_narrow g l (subst IsNarrow e w)) h

none_some : {A : Type 0} {x : A} → None ≡ Some x → ⊥
none_some e = cc

pub no_least : (z : Bounds) (n : ℕ) (old : Bits) → HasLeast z → z.least ≡ None → Adds (IsRootHead z n false) old old
no_least z n old k e = absurd (none_some (sym e ∙ k.1))

pub plain_head : (z : Bounds) (n : ℕ) (once : Bool) (old new : Bits) → z.extensible ≡ false → Adds (IsRootHead z n once) old new → Adds (IsHead z n once) old new
plain_head z n once old new e a = record {
  bits = a.bits;
  is = record {
    once = λ t xs x. sized e (a.is.once t xs x);
    counted = λ t xs b x c. sized e (a.is.counted t xs b x c);
  };
  whole = a.whole;
}

pub head_inside : (z : Bounds) (n : ℕ) (once : Bool) (old mid new : Bits) → z.extensible ≡ true → mid ≡ old ++ (false ∷ []) → Adds (IsRootHead z n once) mid new → Adds (IsHead z n once) old new
head_inside z n once old mid new e m a = record {
  bits = false ∷ a.bits;
  is = record {
    once = λ t xs x. sized_in_root e (a.is.once t xs x);
    counted = λ t xs b x c. sized_in_root e (a.is.counted t xs b x c);
  };
  whole = a.whole ∙ ap (λ q. q ++ a.bits) m ∙ append_assoc old (false ∷ []) a.bits;
}

pub head_outside : (z : Bounds) (n : ℕ) (old new : Bits) → z.extensible ≡ true → (IsInRootBounds z (pos n) → ⊥) → new ≡ old ++ (true ∷ []) → Adds (IsHead z n false) old new
head_outside z n old new e h m = record {
  bits = true ∷ [];
  is = record {
    once = λ t xs x. absurd (cc);
    counted = λ t xs b x c. sized_outside e (λ i. h (subst (λ q. IsInRootBounds z (pos q)) x i)) c;
  };
  whole = m;
}
