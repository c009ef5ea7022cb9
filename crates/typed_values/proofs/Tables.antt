-- Tables of turns and of entries.
use Rattle.std.proofs.Common.{inl, inr, ◌≡◌, ℕ, zero, suc, ◌≤◌, ◌<◌, List, [], ◌∷◌, ◌++◌, length, Some, refl, sym, ap, ◌∙◌, subst, arith, get_or}
use Rattle.std.specs.Prelude.{◌⊎◌, slice_get, slice_set}
use Rattle.names.specs.Modules.{OccursIn}
use Rattle.resolve.specs.Program.{Program}
use Rattle.value_notations.specs.proving.Places.{less_or_more}
use Rattle.typed_values.specs.declared.levels.DefaultLevels.{DefaultLevels}
use Rattle.typed_values.specs.declared.levels.Defaults.{Defaults}
use Rattle.typed_values.specs.declared.named.NamedValue.{NamedValue}
use Rattle.typed_values.specs.declared.named.NamedValues.{NamedValues}
use Rattle.typed_values.specs.declared.chains.NameChains.{NameChains}
use Rattle.typed_values.specs.Chains.{AreLed, HasTurn}
use Rattle.typed_values.specs.Known.{AreKnown, AreKnownDefaults, ComesTo}
use Rattle.typed_values.specs.proving.Turns.{AreLower, AreTrue}
use Rattle.typed_values.proofs.Found.{at_end}
use Rattle.typed_values.proofs.Going.{lead_lower, true_lower}

-- ---- members of lists

pub got_here : {A : Type 0} (xs : List A) (i : ℕ) (x y : A) → i < length xs → y ≡ get_or xs i x → slice_get xs i ≡ Some y
got_here [] i x y l e = absurd (omega (arith, l))
got_here (z ∷ zs) zero x y l e = ap Some (sym e)
got_here (z ∷ zs) (suc i) x y l e = got_here zs i x y (omega (arith, l)) e

-- ---- one turn

pub set_here : (ls : List ℕ) (k x : ℕ) → k < length ls → HasTurn (slice_set ls k x) k x
set_here [] k x l = absurd (omega (arith, l))
set_here (o ∷ os) zero x l = refl
set_here (o ∷ os) (suc k) x l = set_here os k x (omega (arith, l))

pub set_there : (ls : List ℕ) (k x y : ℕ) → (y ≡ k → ⊥) → get_or (slice_set ls k x) y 4294967295 ≡ get_or ls y 4294967295
set_there [] k x y d = refl
set_there (o ∷ os) zero x zero d = absurd (d refl)
set_there (o ∷ os) zero x (suc y) d = refl
set_there (o ∷ os) (suc k) x zero d = refl
set_there (o ∷ os) (suc k) x (suc y) d = set_there os k x y (λ e. d (ap suc e))

-- no number past the end has a turn
pub past_end : (ls : List ℕ) (k : ℕ) → length ls ≤ k → HasTurn ls k 4294967295
past_end [] k l = refl
past_end (o ∷ os) zero l = absurd (omega (arith, l))
past_end (o ∷ os) (suc k) l = past_end os k (omega (arith, l))

pub set_lower : (ls : List ℕ) (k x t : ℕ) → k < length ls → HasTurn ls k t → x ≤ t → 4294967295 ≤ t →
    AreLower ls (slice_set ls k x)
set_lower ls k x t m e l n = record {
  lower = λ y u f. elim (less_or_more y k) [
    | inl d ↦ (
      x,
      subst (λ z. HasTurn (slice_set ls k x) z x) (sym d) (set_here ls k x m),
      (let s : t ≡ u = e ∙ sym (subst (λ z. HasTurn ls z u) d f) in omega (arith, s, l)),
    )
    | inr d ↦ (u, f ∙ sym (set_there ls k x y (apart y d)), omega arith)
  ];
  given = λ y u f b. elim (less_or_more y k) [
    | inl d ↦ (let s : t ≡ u = e ∙ sym (subst (λ z. HasTurn ls z u) d f) in absurd (omega (arith, s, n, b)))
    | inr d ↦ f ∙ sym (set_there ls k x y (apart y d))
  ];
}
  where
    apart : (y : ℕ) → ((y < k) ⊎ (k < y)) → y ≡ k → ⊥
    apart y d e = elim d [
      | inl l ↦ omega (arith, l, e)
      | inr l ↦ omega (arith, l, e)
    ]

-- a turn is after `latest` if it is where the list has one
pub later_than : (ts : List ℕ) (latest x t : ℕ) → latest < 4294967295 → ((u : ℕ) → slice_get ts x ≡ Some u → latest < u) →
    HasTurn ts x t → latest < t
later_than [] latest x t l f h = let e : t ≡ 4294967295 = h in omega (arith, e, l)
later_than (o ∷ os) latest zero t l f h = let b = f o refl in let e : t ≡ o = h in omega (arith, e, b)
later_than (o ∷ os) latest (suc x) t l f h = later_than os latest x t l f h

-- ---- what tables say

pub true_as : {p : Program} (m n : NamedValues) → n.entries ≡ m.entries → AreLower m.turns.items n.turns.items → AreTrue p m →
    AreTrue p n
true_as m n e g h x s = true_lower g (h x (subst (λ z. OccursIn z.items x) e s))

pub led_as_before : {p : Program} {xs ys : List ℕ} (m n : NameChains) → n ≡ m → AreLower xs ys → AreLed p xs m → AreLed p ys n
led_as_before {p} {xs} {ys} m n e g h = lead_lower g (subst (λ z. AreLed p xs z) (sym e) h)

pub known_as : {p : Program} {d e : Defaults} → e.levels ≡ d.levels → e.chains ≡ d.chains →
    AreLower d.named.turns.items e.named.turns.items → AreTrue p e.named → AreKnown p d → AreKnown p e
known_as {p} {d} {e} l c g h k = record {
  defaults = subst (λ z. AreKnownDefaults p z.items) (sym l) k.defaults;
  named = h;
  chains = led_as_before d.chains e.chains c g k.chains;
}

pub known_with : {p : Program} {w e : Defaults} → AreKnownDefaults p e.levels.items → e.named ≡ w.named → e.chains ≡ w.chains →
    AreKnown p w → AreKnown p e
known_with {p} {w} {e} a h c k = record {
  defaults = a;
  named = subst (λ z. AreTrue p z) (sym h) k.named;
  chains = subst (λ z. AreLed p z.turns.items e.chains) (sym h) (subst (λ z. AreLed p w.named.turns.items z) (sym c) k.chains);
}

-- one more entry
pub one_more_true : {p : Program} {ts : List ℕ} (xs ys : List NamedValue) (x : NamedValue) → ys ≡ xs ++ x ∷ [] →
    ((e : NamedValue) → OccursIn xs e → ComesTo p ts e) → ComesTo p ts x → (e : NamedValue) → OccursIn ys e → ComesTo p ts e
one_more_true {p} {ts} xs ys x q h c e s =
    elim (at_end xs x e s.0 (subst (λ zs. slice_get zs s.0 ≡ Some e) q s.1)) [
      | inl o ↦ h e o
      | inr o ↦ subst (λ (z : NamedValue). ComesTo p ts z) o c
    ]

-- ---- tables that say nothing

pub no_levels : {p : Program} (es : List DefaultLevels) → es ≡ [] → AreKnownDefaults p es
no_levels es e N c d l v q = absurd (none_at d (subst (λ ds. OccursIn ds d) e v))
  where
    none_at : (v : DefaultLevels) → OccursIn {A = DefaultLevels} [] v → ⊥
    none_at v s = let q = s.1 in absurd cc

pub none_true : {p : Program} (n : NamedValues) → n.entries.items ≡ [] → AreTrue p n
none_true n e v s = absurd (none_at v (subst (λ es. OccursIn es v) e s))
  where
    none_at : (v : NamedValue) → OccursIn {A = NamedValue} [] v → ⊥
    none_at v s = let q = s.1 in absurd cc
