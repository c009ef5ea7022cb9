-- If a fault is true, constraints have no meaning.
use Rattle.std.proofs.Common.{◌≡◌, inl, inr, ℕ, zero, suc, ℤ, List, [], ◌∷◌, Some, None, true, false, refl, sym, ◌∙◌, subst, arith}
use Rattle.std.specs.Prelude.{slice_get}
use Rattle.std.specs.List.{AllByRecursion}
use Rattle.std.proofs.lemmas.Int.{ints}
use Rattle.trees.specs.Values.{Name}
use Rattle.trees.specs.Constraints.{EndTree, RangeTree, only, between, ConstraintTree, values_in, sizes_in, chars_in}
use Rattle.type_table.specs.Table.{WrittenKind}
use Rattle.resolve.specs.Program.{Program}
use Rattle.range_ends.specs.Ranges.{IsEnd, IsEndIfAny, IsRange, IsEndOf, HasNoEnd, GoesRound, IsReversed}
use Rattle.range_ends.specs.Characters.{CharsTree, IsCharacter, IsFit, HasNoCharacter, IsTurned}
use Rattle.constraints.specs.Constraints.{ConstraintHasMeaning, IsFitting}
use Rattle.constraints.specs.Bounded.{AreBounded, IsUnfitConstraint, IsRound, IsTurnedRound, HasSuch}
use Rattle.constraints.specs.Faults.{IsRightFault}
use Rattle.constraints.specs.declared.fault.BoundFault.{BoundFault}
use Rattle.constraints.specs.declared.fault.BoundFault.TheVariants.{Memory, Circular, Empty, WrongKind, Reconstrained, LowerAboveUpper, MarkerPlace}

pub all_at : {A : Type 0} (P : A → Type 0) (xs : List A) (i : ℕ) (x : A) → AllByRecursion P xs → slice_get xs i ≡ Some x → P x
all_at P [] i x a e = absurd cc
all_at P (y ∷ xs) zero x a e = let q : y ≡ x = cc in subst P q a.0
all_at P (y ∷ xs) (suc i) x a e = all_at P xs i x a.1 e

none_such : {A : Type 0} (P Q : A → Type 0) (xs : List A) → ((x : A) → P x → Q x → ⊥) → AllByRecursion P xs → HasSuch xs Q → ⊥
none_such P Q xs h a (x, i, q) = h x (all_at P xs i.0 x a i.1) q

module _ (p : Program) (k : WrittenKind) (M : Name) (P : ℤ → Type 0) where
  end_of : (r : RangeTree) (e : EndTree) → IsRange p k M P r → IsEndOf r e → IsEnd p k M P e
  end_of (only a) e r q = subst (IsEnd p k M P) q r
  end_of (between a b) e r (inl q) = subst (IsEndIfAny p k M P) q r.0
  end_of (between a b) e r (inr q) = subst (IsEndIfAny p k M P) q r.1

  not_round : (v : ℕ) (r : RangeTree) → IsRange p k M P r → GoesRound p k M v r → ⊥
  not_round v r f g = let e = end_of r g.end f g.is_so in g.round.nothing e.number e.is_so

  not_lost : (r : RangeTree) → IsRange p k M P r → HasNoEnd p k M P r → ⊥
  not_lost r f g =
      let e = end_of r g.end f g.is_so in
      elim g.none [
        | inl h ↦ h.nothing e.number e.is_so
        | inr h ↦ h.2 (subst P (sym (e.only_one h.0 h.1)) e.such)
      ]

  not_reversed : (r : RangeTree) → IsRange p k M P r → IsReversed p k M P r → ⊥
  not_reversed r f g =
      let h = subst (IsRange p k M P) g.is f in
      let l = h.2 g.least.number g.greatest.number g.least.is_so g.greatest.is_so in
      let q = g.reversed in
      omega (arith, ints, l, q)

same_code : (text : List ℕ) (a b : ℕ) → IsCharacter text a → IsCharacter text b → a ≡ b
same_code text a b i j = let e : a ∷ [] ≡ b ∷ [] = sym i.one ∙ j.one in cc

not_no_character : (x : CharsTree) → IsFit x → HasNoCharacter x → ⊥
not_no_character (first, None) f h = h
not_no_character (first, Some last) f (inl h) = h f.from f.starts
not_no_character (first, Some last) f (inr h) = h f.to f.ends

pub not_turned : (x : CharsTree) → IsFit x → IsTurned x → ⊥
not_turned (first, None) f h = h
not_turned (first, Some last) f h =
    let a = same_code first h.from f.from h.starts f.starts in
    let b = same_code last h.to f.to h.ends f.ends in
    let o = f.order in
    let r = h.reversed in
    omega (arith, a, b, o, r)

round_meant : (p : Program) (v : ℕ) (k : WrittenKind) (M : Name) (c : ConstraintTree) → ConstraintHasMeaning p k M c → IsRound p v k M c → ⊥
round_meant p v k M (values_in r) m h = none_such _ _ r.ranges (λ x. not_round p k M _ v x) m h
round_meant p v k M (sizes_in r) m h = none_such _ _ r.ranges (λ x. not_round p k M _ v x) m h
round_meant p v k M (chars_in xs) m h = h

misfit_meant : (p : Program) (k : WrittenKind) (M : Name) (c : ConstraintTree) → IsFitting p k M c → IsUnfitConstraint p k M c → ⊥
misfit_meant p k M (values_in r) m (inl h) = let q : false ≡ true = sym h ∙ m.takes_it in absurd cc
misfit_meant p k M (values_in r) m (inr h) = none_such _ _ r.ranges (λ x. not_lost p k M _ x) m.meant h
misfit_meant p k M (sizes_in r) m (inl h) = let q : false ≡ true = sym h ∙ m.takes_it in absurd cc
misfit_meant p k M (sizes_in r) m (inr h) = none_such _ _ r.ranges (λ x. not_lost p k M _ x) m.meant h
misfit_meant p k M (chars_in xs) m (inl h) = let q : false ≡ true = sym h ∙ m.takes_it in absurd cc
misfit_meant p k M (chars_in xs) m (inr h) = none_such _ _ xs not_no_character m.meant h

turned_meant : (p : Program) (k : WrittenKind) (M : Name) (c : ConstraintTree) → ConstraintHasMeaning p k M c → IsTurnedRound p k M c → ⊥
turned_meant p k M (values_in r) m h = none_such _ _ r.ranges (λ x. not_reversed p k M _ x) m h
turned_meant p k M (sizes_in r) m h = none_such _ _ r.ranges (λ x. not_reversed p k M _ x) m h
turned_meant p k M (chars_in xs) m h = none_such _ _ xs not_turned m h

pub excludes : (p : Program) (e : BoundFault) → (e ≡ Memory → ⊥) → IsRightFault p e → AreBounded p → ⊥
excludes p Memory n s b = n refl
excludes p (Circular s) n f b =
    let h = f.round in
    round_meant p f.number h.kind h.within h.constraint
    (b.fitting f.ty h.number h.kind h.within h.constraint h.written).meant h.such
excludes p (Empty s) n f b =
    elim f.has.nothing [
      | inl h ↦ (let z = b.numbers f.ty f.has.kind f.has.is in h z.0 z.1)
      | inr h ↦ h (b.characters f.ty f.has.kind f.has.is)
    ]
excludes p (WrongKind s) n f b =
    let h = f.has in
    misfit_meant p h.kind h.within h.constraint (b.fitting f.ty h.number h.kind h.within h.constraint h.written) h.such
excludes p (Reconstrained s) n f b = b.last f.ty f.has
excludes p (LowerAboveUpper s) n f b =
    let h = f.has in
    turned_meant p h.kind h.within h.constraint (b.fitting f.ty h.number h.kind h.within h.constraint h.written).meant h.such
excludes p (MarkerPlace s) n f b =
    let h = f.has in
    let m = (b.fitting f.ty h.number h.kind h.within h.constraint h.written).marked in
    let q : false ≡ true = sym h.such ∙ m in
    absurd cc
