-- Trees of names, and how they grow.
use Rattle.std.proofs.Common.{inl, inr, ◌≡◌, ℕ, zero, suc, List, ◌++◌, Option, Some, None, refl, sym, ap, ◌∙◌, subst, arith}
use Rattle.std.specs.Prelude.{◌⊎◌, ◌/◌, ◌%◌, ◌==◌, Bool, true, false, ◌-◌, if◌then◌else◌, MatchOption, slice_get}
use Rattle.std.proofs.lemmas.Bool.{eqb-true}
use Rattle.std.proofs.lemmas.Option.{same_Some}
use Rattle.typed_values.specs.Chains.{Has, side}
use Rattle.typed_values.specs.declared.stops.Branch.{Branch}
use Rattle.typed_values.specs.declared.stops.Stops.{Stops}
use Rattle.typed_values.specs.proving.Stopping.{HasMore, IsPut}
use Rattle.typed_values.proofs.Found.{in_front}

-- a tree has one thing for a number
pub one_has : (bs : List Branch) (h t x y z : ℕ) → Has bs h t x y → Has bs h t x z → y ≡ z
one_has bs zero t x y z a b = a ∙ sym b
one_has bs (suc h) t x y z a b =
    let same = same_Some a.0 b.0 (sym a.1 ∙ b.1) in
    one_has bs h (side a.0 x) (x / 2) y z a.2 (subst (λ (c : Branch). Has bs h (side c x) (x / 2) z) (sym same) b.2)

-- it has that still where there are more branches
pub has_more : (bs cs : List Branch) (h t x y : ℕ) → Has bs h t x y → Has (bs ++ cs) h t x y
has_more bs cs zero t x y a = a
has_more bs cs (suc h) t x y a = (a.0, in_front bs cs a.0 t a.1, has_more bs cs h (side a.0 x) (x / 2) y a.2)

pub has_on : {s r : Stops} (t x y : ℕ) → HasMore s r → Has s.branches.items s.height t x y →
    Has r.branches.items r.height t x y
has_on {s} {r} t x y m a =
    subst (λ h. Has r.branches.items h t x y) (sym m.height)
    (subst (λ bs. Has bs s.height t x y) (sym m.branches.1) (has_more s.branches.items m.branches.0 s.height t x y a))

-- ---- one branch more

abbrev pick : Branch → Bool → ℕ
pick b c = if c then b.even else b.odd

abbrev even : ℕ → Bool
even x = (x % 2) == 0

module _ (bs cs ds : List Branch) (h t v e new : ℕ) (b one : Branch) (g : slice_get bs t ≡ Some b)
    (grown : (xs : List Branch) × (cs ≡ bs ++ xs)) (more : (xs : List Branch) × (ds ≡ cs ++ xs))
    (there : slice_get ds new ≡ Some one) where
  later : (r x y : ℕ) → Has cs h r x y → Has ds h r x y
  later r x y a = subst (λ zs. Has zs h r x y) (sym more.1) (has_more cs more.0 h r x y a)

  from_start : (r x y : ℕ) → Has bs h r x y → Has ds h r x y
  from_start r x y a = later r x y (subst (λ zs. Has zs h r x y) (sym grown.1) (has_more bs grown.0 h r x y a))

  up : (z y r : ℕ) → side one z ≡ r → Has ds h r (z / 2) y → Has ds (suc h) new z y
  up z y r q a = (one, there, subst (λ i. Has ds h i (z / 2) y) (sym q) a)

  down : (z y r : ℕ) → side b z ≡ r → Has bs (suc h) t z y → Has bs h r (z / 2) y
  down z y r q a =
      let same = same_Some a.0 b (sym a.1 ∙ g) in
      subst (λ i. Has bs h i (z / 2) y) q (subst (λ (c : Branch). Has bs h (side c z) (z / 2) y) same a.2)

  module _ (x : ℕ) where
    changed : (z y r : ℕ) → IsPut bs cs h r (x / 2) v e → side b z ≡ r → side one z ≡ e → Has bs (suc h) t z y →
        Has ds (suc h) new z y ⊎ Has ds (suc h) new z v
    changed z y r p q s a = elim (p.others (z / 2) y (down z y r q a)) [
      | inl o ↦ inl (up z y e s (later e (z / 2) y o))
      | inr o ↦ inr (up z v e s (later e (z / 2) v o))
    ]

    kept : (z y r : ℕ) → side b z ≡ r → side one z ≡ r → Has bs (suc h) t z y →
        Has ds (suc h) new z y ⊎ Has ds (suc h) new z v
    kept z y r q s a = inl (up z y r s (from_start r (z / 2) y (down z y r q a)))

    others_even : (z y : ℕ) (c : Bool) → even z ≡ c → one.even ≡ e → one.odd ≡ b.odd →
        IsPut bs cs h b.even (x / 2) v e → Has bs (suc h) t z y → Has ds (suc h) new z y ⊎ Has ds (suc h) new z v
    others_even z y true q s r p a = changed z y b.even p (ap (pick b) q) (ap (pick one) q ∙ s) a
    others_even z y false q s r p a = kept z y b.odd (ap (pick b) q) (ap (pick one) q ∙ r) a

    others_odd : (z y : ℕ) (c : Bool) → even z ≡ c → one.odd ≡ e → one.even ≡ b.even →
        IsPut bs cs h b.odd (x / 2) v e → Has bs (suc h) t z y → Has ds (suc h) new z y ⊎ Has ds (suc h) new z v
    others_odd z y true q s r p a = kept z y b.even (ap (pick b) q) (ap (pick one) q ∙ r) a
    others_odd z y false q s r p a = changed z y b.odd p (ap (pick b) q) (ap (pick one) q ∙ s) a

    pub put_even : even x ≡ true → one.even ≡ e → one.odd ≡ b.odd → IsPut bs cs h b.even (x / 2) v e →
        IsPut bs ds (suc h) t x v new
    put_even q s r p = record {
      it = up x v e (ap (pick one) q ∙ s) (later e (x / 2) v p.it);
      others = λ z y. others_even z y (even z) refl s r p;
    }

    pub put_odd : even x ≡ false → one.odd ≡ e → one.even ≡ b.even → IsPut bs cs h b.odd (x / 2) v e →
        IsPut bs ds (suc h) t x v new
    put_odd q s r p = record {
      it = up x v e (ap (pick one) q ∙ s) (later e (x / 2) v p.it);
      others = λ z y. others_odd z y (even z) refl s r p;
    }

pub put_none : (bs : List Branch) (t x v : ℕ) → IsPut bs bs 0 t x v v
put_none bs t x v = record { it = refl; others = λ z y a. inr refl }

-- the tree of no names
none_either : (b : Bool) → ◌≡◌ {A = ℕ} (if b then 0 else 0) 0
none_either true = refl
none_either false = refl

pub empty_has : (bs : List Branch) → slice_get bs 0 ≡ Some (record { even = 0; odd = 0 }) → (h x : ℕ) → Has bs h 0 x 0
empty_has bs e zero x = refl
empty_has bs e (suc h) x = (
  record { even = 0; odd = 0 },
  e,
  subst (λ t. Has bs h t (x / 2) 0) (sym (none_either (even x))) (empty_has bs e h (x / 2)),
)

-- what was found, if something was
pub found_too : (bs : List Branch) (h t x y : ℕ) (r : Option ℕ) → MatchOption r ((z : ℕ) → Has bs h t x z → ⊥) (Has bs h t x) →
    Has bs h t x y → r ≡ Some y
found_too bs h t x y None g a = absurd (g y a)
found_too bs h t x y (Some z) g a = ap Some (one_has bs h t x z y g a)

pub one_up : (h : ℕ) → (h ≡ 0 → ⊥) → suc (h - 1) ≡ h
one_up zero e = absurd (e refl)
one_up (suc h) e = omega arith

pub is_zero : (n : ℕ) → n ≡ 0 → (n == 0) ≡ true
is_zero n e = subst (λ m. (m == 0) ≡ true) (sym e) refl

pub no_zero : (n : ℕ) → (n ≡ 0 → ⊥) → (n == 0) ≡ false
no_zero n h = by (n == 0) refl
  where
    by : (b : Bool) → (n == 0) ≡ b → b ≡ false
    by true e = absurd (h (eqb-true n 0 e))
    by false e = refl

-- ---- what a branch has

module _ (bs : List Branch) (h t x : ℕ) (b : Branch) (g : slice_get bs t ≡ Some b) where
  on_side : (s : ℕ) (r : Option ℕ) → side b x ≡ s →
      MatchOption r ((y : ℕ) → Has bs h s (x / 2) y → ⊥) (Has bs h s (x / 2)) →
      MatchOption r ((y : ℕ) → Has bs (suc h) t x y → ⊥) (Has bs (suc h) t x)
  on_side s None q none = λ y a.
      let same = same_Some a.0 b (sym a.1 ∙ g) in
      none y (subst (λ i. Has bs h i (x / 2) y) q (subst (λ (c : Branch). Has bs h (side c x) (x / 2) y) same a.2))
  on_side s (Some z) q has = (b, g, subst (λ i. Has bs h i (x / 2) z) (sym q) has)

  pub on_even : (r : Option ℕ) → even x ≡ true →
      MatchOption r ((y : ℕ) → Has bs h b.even (x / 2) y → ⊥) (Has bs h b.even (x / 2)) →
      MatchOption r ((y : ℕ) → Has bs (suc h) t x y → ⊥) (Has bs (suc h) t x)
  on_even r e m = on_side b.even r (ap (pick b) e) m

  pub on_odd : (r : Option ℕ) → even x ≡ false →
      MatchOption r ((y : ℕ) → Has bs h b.odd (x / 2) y → ⊥) (Has bs h b.odd (x / 2)) →
      MatchOption r ((y : ℕ) → Has bs (suc h) t x y → ⊥) (Has bs (suc h) t x)
  on_odd r e m = on_side b.odd r (ap (pick b) e) m
