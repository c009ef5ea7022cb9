-- What bounds say of an allowed number or size, and how far one number is above another.
use Rattle.std.proofs.Common.{arith, ◌≡◌, ℕ, ℤ, pos, negsuc, suc, ◌+◌, ◌-◌, ◌≤◌, List, refl, ap, ◌∙◌}
use Rattle.std.proofs.lemmas.Int.{ints}
use Rattle.std.specs.Prelude.{Option, Some, None, IfSome, nat_abs, ◌+ℤ◌, ◌-ℤ◌, ◌≤ℤ◌}
use Rattle.asn_base.specs.Types.{Range}
use Rattle.asn_base.specs.Typed.{IsInSome}
use Rattle.asn_base.specs.Schemas.{IsLeast, IsGreatest, IsSize}

abbrev pub InRoot : (ℤ → Type 0) → Option (List Range) → ℤ → Type 0
InRoot P r z = P z × IfSome r (IsInSome z)

pub least_in : (P : ℤ → Type 0) (o : Option ℤ) (z : ℤ) → IsLeast P o → P z → IfSome o (λ l. l ≤ℤ z)
least_in P None z h p = tt
least_in P (Some l) z h p = h.1 z p

pub greatest_in : (P : ℤ → Type 0) (o : Option ℤ) (z : ℤ) → IsGreatest P o → P z → IfSome o (λ g. z ≤ℤ g)
greatest_in P None z h p = tt
greatest_in P (Some g) z h p = h.1 z p

pub least_size : (Q : ℤ → Type 0) (o : Option ℤ) → ((z : ℤ) → Q z → IsSize z) → IsLeast Q o
    → (l : ℕ) × (o ≡ Some (pos l))
least_size Q None s h = absurd (h (pos 0) (λ z q. not_negative z (s z q)))
  where
    not_negative : (z : ℤ) → IsSize z → pos 0 ≤ℤ z
    not_negative (pos n) h = omega (arith, ints)
    not_negative (negsuc n) h = absurd h
least_size Q (Some (pos l)) s h = (l, refl)
least_size Q (Some (negsuc l)) s h = absurd (s (negsuc l) h.0)

-- ---- how far one number is above another

pub minus : (m n : ℕ) → m ≤ n → (k : ℕ) × (n ≡ m + k)
minus m n h = (n - m, omega (arith, h))

pub above : (l v : ℤ) → l ≤ℤ v → (n : ℕ) × (v ≡ l +ℤ pos n)
above (pos a) (pos b) h = let r = minus a b (omega (arith, ints)) in (r.0, (let e = r.1 in ap pos e))
above (pos a) (negsuc b) h = absurd (omega (arith, ints))
above (negsuc a) (pos b) h = (suc a + b, far a b)
  where
    far : (a b : ℕ) → pos b ≡ negsuc a +ℤ pos (suc a + b)
    far a b = omega (arith, ints)
above (negsuc a) (negsuc b) h = let r = minus b a (omega (arith, ints)) in (r.0, far a b r.0 r.1)
  where
    far : (a b k : ℕ) → a ≡ b + k → negsuc b ≡ negsuc a +ℤ pos k
    far a b k e = omega (arith, ints)

far_abs : (l : ℤ) (m : ℕ) → nat_abs ((l +ℤ pos m) -ℤ l) ≡ m
far_abs l m = by ((l +ℤ pos m) -ℤ l) (omega (arith, ints))
  where
    by : (z : ℤ) → z ≡ pos m → nat_abs z ≡ m
    by z e = ap nat_abs e

pub far_is : (l g : ℤ) (m : ℕ) → g ≡ l +ℤ pos m → nat_abs (g -ℤ l) ≡ m
far_is l g m e = ap (λ q. nat_abs (q -ℤ l)) e ∙ far_abs l m
