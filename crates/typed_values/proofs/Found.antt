-- What is found for some levels, and for some values that are being read.
use Rattle.std.proofs.Common.{inl, inr, ◌≡◌, ℕ, zero, suc, ◌+◌, ◌≤◌, List, [], ◌∷◌, ◌++◌, Some, subst, arith}
use Rattle.std.specs.Prelude.{◌⊎◌, slice_get}
use Rattle.std.proofs.lemmas.Option.{same_Some}
use Rattle.names.specs.Modules.{OccursIn}
use Rattle.typed_values.specs.declared.levels.Defaults.{Defaults}
use Rattle.typed_values.specs.Chains.{AreApart, AreBy, AreSince}
use Rattle.typed_values.specs.proving.Reading.{IsFound, IsLater}
use Rattle.typed_values.specs.proving.Turns.{AreLower}

-- ---- members of lists

pub none_in : (r : ℕ) → OccursIn {A = ℕ} [] r → ⊥
none_in r s = let e = s.1 in absurd cc

pub in_front : {A : Type 0} (xs ys : List A) (r : A) (i : ℕ) → slice_get xs i ≡ Some r → slice_get (xs ++ ys) i ≡ Some r
in_front [] ys r i e = absurd cc
in_front (x ∷ xs) ys r zero e = e
in_front (x ∷ xs) ys r (suc i) e = in_front xs ys r i e

pub in_back : (xs ys : List ℕ) (r : ℕ) → OccursIn ys r → OccursIn (xs ++ ys) r
in_back [] ys r s = s
in_back (x ∷ xs) ys r s = let h = in_back xs ys r s in (suc h.0, h.1)

pub in_either : {A : Type 0} (xs ys : List A) (r : A) (i : ℕ) → slice_get (xs ++ ys) i ≡ Some r → OccursIn xs r ⊎ OccursIn ys r
in_either [] ys r i e = inr (i, e)
in_either (x ∷ xs) ys r zero e = inl (0, e)
in_either (x ∷ xs) ys r (suc i) e = elim (in_either xs ys r i e) [
  | inl h ↦ inl (suc h.0, h.1)
  | inr h ↦ inr h
]

pub at_end : {A : Type 0} (xs : List A) (x y : A) (i : ℕ) → slice_get (xs ++ x ∷ []) i ≡ Some y → (OccursIn xs y) ⊎ (x ≡ y)
at_end [] x y zero e = inr (same_Some x y e)
at_end [] x y (suc i) e = absurd cc
at_end (z ∷ xs) x y zero e = inl (0, e)
at_end (z ∷ xs) x y (suc i) e = elim (at_end xs x y i e) [
  | inl h ↦ inl (suc h.0, h.1)
  | inr h ↦ inr h
]

pub apart_none : (rs : List ℕ) → AreApart [] rs
apart_none rs = λ x s h. none_in x s

-- ---- tables

pub lower_same : (xs : List ℕ) → AreLower xs xs
lower_same xs = record { lower = λ x t e. (t, e, omega arith); given = λ x t e l. e }

pub lower_on : {xs ys zs : List ℕ} → AreLower xs ys → AreLower ys zs → AreLower xs zs
lower_on g h = record {
  lower = λ x t e.
      let a = g.lower x t e in
      let b = h.lower x a.0 a.1 in
      let l = a.2 in
      let m = b.2 in
      (b.0, b.1, omega (arith, l, m));
  given = λ x t e l. h.given x t (g.given x t e l) l;
}

pub later_same : (t : Defaults) → IsLater t t
later_same t = record { lowest = omega arith; latest = omega arith; turns = lower_same t.named.turns.items }

pub later_on : {t u w : Defaults} → IsLater t u → IsLater u w → IsLater t w
later_on g h =
    let a = g.lowest in
    let b = h.lowest in
    let c = g.latest in
    let d = h.latest in
    record { lowest = omega (arith, a, b); latest = omega (arith, c, d); turns = lower_on g.turns h.turns }

pub by_lower : {xs ys : List ℕ} {a b : ℕ} (rs : List ℕ) → AreLower xs ys → a ≤ b → AreBy xs a rs → AreBy ys b rs
by_lower rs g l h = λ r s.
    let t = h r s in
    let u = g.lower r t.0 t.1 in
    let m = t.2 in
    let n = u.2 in
    (u.0, u.1, omega (arith, l, m, n))

-- turns that were given are the same later
pub since_lower : {xs ys : List ℕ} {earliest end : ℕ} (rs : List ℕ) → AreLower xs ys → AreSince xs earliest end rs →
    AreSince ys earliest end rs
since_lower rs g h r s n =
    let t = h r s n in
    record { turn = t.turn; has = g.given r t.turn t.has t.given; given = t.given; since = t.since }

-- ---- what is found

pub found_here : {levels : ℕ} {os : List ℕ} {t : Defaults} {P : ℕ → List ℕ → Type 0} → IsFound levels os t P → P levels os
found_here {levels} {os} f = f.holds levels os (omega arith) f.apart

pub found_later : {levels : ℕ} {os : List ℕ} {t u : Defaults} {P : ℕ → List ℕ → Type 0} →
    IsLater t u → IsFound levels os t P → IsFound levels os u P
found_later g f = record {
  named = f.named;
  by = by_lower f.named g.turns g.latest f.by;
  apart = f.apart;
  holds = λ n qs l a. f.holds n qs (let w = g.lowest in omega (arith, l, w)) a;
}

pub found_then : {levels : ℕ} {os : List ℕ} {t : Defaults} {P Q : ℕ → List ℕ → Type 0} →
    IsFound levels os t P → ((n : ℕ) (qs : List ℕ) → P n qs → Q n qs) → IsFound levels os t Q
found_then f go = record { named = f.named; by = f.by; apart = f.apart; holds = λ n qs l a. go n qs (f.holds n qs l a) }

pub found_none : {levels : ℕ} {os : List ℕ} {t : Defaults} {P : ℕ → List ℕ → Type 0} →
    ((n : ℕ) (qs : List ℕ) → levels ≤ n + t.lowest → P n qs) → IsFound levels os t P
found_none go = record {
  named = [];
  by = λ r s. absurd (none_in r s);
  apart = λ x s h. none_in x h;
  holds = λ n qs l a. go n qs l;
}

pub found_both : {levels : ℕ} {os : List ℕ} {t : Defaults} {P Q R : ℕ → List ℕ → Type 0} →
    IsFound levels os t P → IsFound levels os t Q → ((n : ℕ) (qs : List ℕ) → P n qs → Q n qs → R n qs) →
    IsFound levels os t R
found_both {os = os} {t = t} f g go = record {
  named = f.named ++ g.named;
  by = λ r s. elim (in_either f.named g.named r s.0 s.1) [
    | inl h ↦ f.by r h
    | inr h ↦ g.by r h
  ];
  apart = λ x s h. elim (in_either f.named g.named x h.0 h.1) [
    | inl k ↦ f.apart x s k
    | inr k ↦ g.apart x s k
  ];
  holds = λ n qs l a. go n qs
      (f.holds n qs l (λ x s h. a x s (h.0, in_front f.named g.named x h.0 h.1)))
      (g.holds n qs l (λ x s h. a x s (in_back f.named g.named x h)));
}

-- what is found for the parts of a value is found for the value, at a level more
pub found_up : {levels : ℕ} {os : List ℕ} {t : Defaults} {P Q : ℕ → List ℕ → Type 0} →
    IsFound levels os t P → t.lowest ≤ levels → ((n : ℕ) (qs : List ℕ) → P n qs → Q (suc n) qs) → IsFound (suc levels) os t Q
found_up {levels} {os} {t} {P} {Q} f w go = record { named = f.named; by = f.by; apart = f.apart; holds = by }
  where
    by : (n : ℕ) (qs : List ℕ) → suc levels ≤ n + t.lowest → AreApart qs f.named → Q n qs
    by zero qs l a = absurd (omega (arith, l, w))
    by (suc n) qs l a = go n qs (f.holds n qs (omega (arith, l)) a)

-- a value that holds no others
pub found_leaf : {levels : ℕ} {os : List ℕ} {t : Defaults} {Q : ℕ → List ℕ → Type 0} →
    t.lowest ≤ levels → ((n : ℕ) (qs : List ℕ) → Q (suc n) qs) → IsFound (suc levels) os t Q
found_leaf {levels} {os} {t} {Q} w go = found_up {P = λ n qs. Unit {0}} (found_none (λ n qs l. tt)) w (λ n qs u. go n qs)

pub found_as : {levels : ℕ} {os ps : List ℕ} {t : Defaults} {P : ℕ → List ℕ → Type 0} →
    ps ≡ os → IsFound levels ps t P → IsFound levels os t P
found_as {levels} {os} {ps} {t} {P} e f = subst (λ qs. IsFound levels qs t P) e f
