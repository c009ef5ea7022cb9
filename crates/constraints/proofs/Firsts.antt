-- The first fault of constraints.
use Rattle.std.proofs.Common.{◌≡◌, ◌⊎◌, inl, inr, ℕ, zero, suc, ◌+◌, ◌<◌, true, List, [], ◌∷◌, ◌++◌, length, take, Option, Some, refl, sym, ap, ◌∙◌, subst, arith}
use Rattle.std.specs.Prelude.{slice_get}
use Rattle.trees.specs.declared.constraint.ConstraintForm.TheVariants as forms
use Rattle.trees.specs.declared.constraint.ConstraintSyntax.{ConstraintSyntax}
use Rattle.trees.specs.declared.constraint.RangesSyntax.{RangesSyntax}
use Rattle.trees.specs.Constraints.{constraint_of, constraint_tree}
use Rattle.trees.specs.Values.{Name}
use Rattle.type_table.specs.Table.{Type', WrittenKind, walk}
use Rattle.resolve.specs.Program.{Program}
use Rattle.range_ends.specs.Characters.{CharsTree, IsFit, AreFit}
use Rattle.range_ends.specs.declared.written_ranges.Counted.TheVariants.{Numbers, Sizes}
use Rattle.constraints.specs.Constraints.{takes, is_marked}
use Rattle.constraints.specs.First.{IsConstraintWrong, memory, misplaced, in_numbers, in_sizes}
use Rattle.constraints.specs.declared.limit.Limit.{Limit}
use Rattle.constraints.specs.declared.meaning.ConstraintFault.{ConstraintFault}
use Rattle.constraints.specs.proving.Columns.{AreNoted, IsNoted, IsLimitOf}
use Rattle.constraints.specs.proving.Reported.{AreRangesWrong, no_memory, marker, range, AreTargets}

pub fit_before : (xs : List CharsTree) (i n : ℕ) (x : CharsTree) →
    AreFit (take i xs) →
    n < i →
    slice_get xs n ≡ Some x →
    IsFit x
fit_before [] i n x a l e = absurd cc
fit_before (y ∷ xs) zero n x a l e = absurd (omega (arith, l))
fit_before (y ∷ xs) (suc i) zero x a l e = let q : y ≡ x = cc in subst IsFit q a.0
fit_before (y ∷ xs) (suc i) (suc n) x a l e = fit_before xs i n x a.1 (omega (arith, l)) e

-- ---- one constraint

pub of_values : (p : Program) (k : WrittenKind) (M : Name) (c : ConstraintSyntax) (r : RangesSyntax)
    (w : ConstraintFault) →
    takes k (constraint_of c) ≡ true →
    c.form ≡ forms.Values r →
    AreRangesWrong p k M Numbers c.at r w →
    IsConstraintWrong p k M c w
of_values p k M c r w t f (no_memory e) = memory e
of_values p k M c r w t f (marker m e) = misplaced t (ap (λ x. is_marked k (constraint_tree x)) f ∙ m) e
of_values p k M c r w t f (range g m h e) = in_numbers r g t (ap (λ x. is_marked k (constraint_tree x)) f ∙ m) f h e

pub of_sizes : (p : Program) (k : WrittenKind) (M : Name) (c : ConstraintSyntax) (r : RangesSyntax)
    (w : ConstraintFault) →
    takes k (constraint_of c) ≡ true →
    c.form ≡ forms.Size r →
    AreRangesWrong p k M Sizes c.at r w →
    IsConstraintWrong p k M c w
of_sizes p k M c r w t f (no_memory e) = memory e
of_sizes p k M c r w t f (marker m e) = misplaced t (ap (λ x. is_marked k (constraint_tree x)) f ∙ m) e
of_sizes p k M c r w t f (range g m h e) = in_sizes r g t (ap (λ x. is_marked k (constraint_tree x)) f ∙ m) f h e

-- ---- types

pub long_next : (v w : List ℕ) (x n : ℕ) → length v ≡ n → w ≡ v ++ x ∷ [] → length w ≡ n + 1
long_next v w x n l e = ap length e ∙ pushed v ∙ ap (λ m. m + 1) l
  where
    pushed : (v : List ℕ) → length (v ++ x ∷ []) ≡ length v + 1
    pushed [] = refl
    pushed (y ∷ v) = let f = pushed v in omega (arith, f)

got : (v : List ℕ) (x n i : ℕ) →
    slice_get (v ++ x ∷ []) n ≡ Some i →
    (slice_get v n ≡ Some i) ⊎ ((n ≡ length v) × (i ≡ x))
got [] x zero i e = let q : x ≡ i = cc in inr (refl, sym q)
got [] x (suc n) i e = absurd cc
got (y ∷ v) x zero i e = inl e
got (y ∷ v) x (suc n) i e =
    elim (got v x n i e) [
      | inl f ↦ inl f
      | inr f ↦ inr (ap suc f.0, f.1)
    ]

pub target_next : (ts : List Type') (start x n : ℕ) (v w : List ℕ) →
    length v ≡ n →
    AreTargets ts start v →
    walk ts n start ≡ Some x →
    w ≡ v ++ x ∷ [] →
    AreTargets ts start w
target_next ts start x n v w l b f e = subst (AreTargets ts start) (sym e) (λ m i g. elim (got v x m i g) [
  | inl h ↦ b m i h
  | inr h ↦ ap (λ k. walk ts k start) (h.0 ∙ l) ∙ f ∙ ap Some (sym h.1)
])

pub good_before : (p : Program) (at : List (Option ℕ)) (ls : List Limit) (n : ℕ) →
    AreNoted p at ls →
    ((i : ℕ) → i < n → IsNoted at i) →
    (i : ℕ) → i < n → (l : Limit) × IsLimitOf p i l
good_before p at ls n a d i l =
    let m = d i l in
    let e = a.each i m.0 m.1 in
    (e.0, e.2)
