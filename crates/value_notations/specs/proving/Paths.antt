-- From reference to reference, and the values that are opened on the way.
use Rattle.std.proofs.Common.{inl, inr, ◌≡◌, ℕ, suc, ◌<◌, ◌≤◌, ◌+◌, false, List, [], ◌∷◌, ◌++◌, Some, refl, sym, ap, subst, arith, eqb}
use Rattle.std.specs.List.{IsDistinct, AllByRecursion, list_any}
use Rattle.std.proofs.lemmas.Bool.{eqb-true, or_cases, cases_Bool}
use Rattle.std.proofs.lemmas.Map.Steps.{length-le_from_distinct_below}
use Rattle.trees.specs.Values.{Name, Tree}
use Rattle.names.specs.Modules.{OccursIn}
use Rattle.type_table.specs.Table.{WrittenKind}
use Rattle.resolve.specs.Program.{Program}
use Rattle.range_ends.specs.Ends.{IsValueAt}
use Rattle.value_notations.specs.References.{IsOwn, IsLast}
use Rattle.value_notations.specs.References as last
use Rattle.value_notations.specs.Wrong.{OpenedPath}
use Rattle.value_notations.specs.Wrong as wrong
use Rattle.value_notations.specs.Faults.{HasNoMeaningAt, IsCircularNameAt}
use Rattle.value_notations.specs.proving.Next.{IsNameOf, IsNoName}
use Rattle.value_notations.specs.proving.Opened.{IsGrown}

-- ---- references

-- one reference more
pub leads_more : {p : Program} {k : WrittenKind} {os ps : List ℕ} {M K N : Name} {n l m : Tree} (i : ℕ)
    → OpenedPath p k os M n ps K l
    → IsNameOf p k K l i
    → (OccursIn ps i → ⊥)
    → IsValueAt p i N m
    → OpenedPath p k os M n (i ∷ ps) N m
leads_more {p} {k} {os} {M = M} {N = N} {m = m} i wrong.there a f v =
    subst (λ (z : Tree). OpenedPath p k os M z (i ∷ os) N m) (sym a.notation)
    (wrong.onward i a.none a.refers f v wrong.there)
leads_more i (wrong.onward j none r g b h) a f v = wrong.onward j none r g b (leads_more i h a f v)

pub leads_own : {p : Program} {k : WrittenKind} {os ps : List ℕ} {M K : Name} {n l : Tree}
    → OpenedPath p k os M n ps K l
    → IsOwn k l
    → IsLast p k os M n ps K l
leads_own wrong.there o = last.own o
leads_own (wrong.onward i none r f a h) o = last.referred i none r f a (leads_own h o)

abbrev pub leads_lost : {p : Program} {k : WrittenKind} {os ps : List ℕ} {M K : Name} {n l : Tree}
    → OpenedPath p k os M n ps K l
    → IsNoName p k K l
    → HasNoMeaningAt p k os M n K l
leads_lost {p} {k} {os} {ps} {M} {K} {n} {l} h a = record {
  prefix = a.prefix;
  name = a.name;
  lost = record {
    opened = ps;
    within = K;
    chain = subst (λ (z : Tree). OpenedPath p k os M n ps K z) a.notation h;
    none = a.none;
    no_value = a.no_value;
  };
  within = refl;
  notation = sym a.notation;
}

abbrev pub leads_round : {p : Program} {k : WrittenKind} {os ps : List ℕ} {M K : Name} {n l : Tree} (i : ℕ)
    → OpenedPath p k os M n ps K l
    → IsNameOf p k K l i
    → OccursIn ps i
    → IsCircularNameAt p k os M n i K l
leads_round {p} {k} {os} {ps} {M} {K} {n} {l} i h a s = record {
  round = record {
    opened = ps;
    within = K;
    prefix = a.prefix;
    name = a.name;
    chain = subst (λ (z : Tree). OpenedPath p k os M n ps K z) a.notation h;
    none = a.none;
    refers = a.refers;
    again = s;
  };
  within = refl;
  notation = sym a.notation;
}

-- ---- values that are opened

apart : (i : ℕ) (xs os : List ℕ) → (OccursIn (xs ++ os) i → ⊥) → AllByRecursion (λ y. eqb i y ≡ false) xs
apart i [] os f = tt
apart i (x ∷ xs) os f =
    elim (cases_Bool (eqb i x)) [
      | inl h ↦ absurd (f (0, ap Some (sym (eqb-true i x h))))
      | inr h ↦ (h, apart i xs os (λ s. f (suc s.0, s.1)))
    ]

pub none_more : (os : List ℕ) (n : ℕ) → IsGrown os os n 0
unfolding IsDistinct
none_more os n = record { added = []; joined = refl; long = refl; distinct = tt; below = λ q h. absurd cc }

pub one_more :
    (os ps : List ℕ) (n s i : ℕ) → IsGrown os ps n s → i < n → (OccursIn ps i → ⊥) → IsGrown os (i ∷ ps) n (s + 1)
unfolding IsDistinct
one_more os ps n s i g l f =
    let fresh : OccursIn (g.added ++ os) i → ⊥ = λ h. f (subst (λ (z : List ℕ). OccursIn z i) (sym g.joined) h) in
    let long = g.long in
    record {
      added = i ∷ g.added;
      joined = ap (λ (z : List ℕ). i ∷ z) g.joined;
      long = omega (arith, long);
      distinct = (apart i g.added os fresh, g.distinct);
      below = λ q h. elim (or_cases (eqb q i) (list_any (eqb q) g.added) h) [
        | inl e ↦ subst (λ (z : ℕ). z < n) (sym (eqb-true q i e)) l
        | inr e ↦ g.below q e
      ];
    }

pub few_more : (os ps : List ℕ) (n s : ℕ) → IsGrown os ps n s → s ≤ n
few_more os ps n s g =
    let long = g.long in
    let few = length-le_from_distinct_below g.added n g.distinct g.below in
    omega (arith, long, few)
