-- A program has at most one first fault of lists, of DEFAULTs and of names in notations, at one offset.
use Rattle.std.proofs.Common.{◌≡◌, inl, inr, ℕ, ◌<◌, List, Some, map, sym, ap, ◌∙◌, subst}
use Rattle.std.specs.Prelude.{option_map, slice_get}
use Rattle.std.proofs.lemmas.Bool.{cases_order}
use Rattle.std.proofs.lemmas.Option.{slice_get-map}
use Rattle.trees.specs.declared.location.SourceLocation.{SourceLocation}
use Rattle.trees.specs.Values.{Name, tree_of}
use Rattle.names.specs.declared.fault.NameFault.{NameFault}
use Rattle.names.specs.declared.fault.NameFault.TheVariants as faults
use Rattle.names.specs.declared.sources.ValueAt.{ValueAt}
use Rattle.names.specs.Faults.{fault_module, fault_name}
use Rattle.names.specs.Names.{Module}
use Rattle.names.specs.Sources.{value_seen}
use Rattle.type_table.specs.declared.table.Shape.{Shape}
use Rattle.type_table.specs.declared.table.TypeNode.{TypeNode}
use Rattle.type_table.specs.FirstInList.{IsFirstInList, IsSameLocation, ReportsAlike}
use Rattle.type_table.specs.Lists.{AreSound}
use Rattle.type_table.specs.Seen.{type_of}
use Rattle.resolve.specs.First.{IsWrittenAs, IsFirstOfProgram, IsFirstInCircle, IsFirstInType, IsFirstInValue, IsFirstList, IsFirstUnknown, TypeMeans, ValueMeans, in_circle, in_list, in_type, in_value}
use Rattle.resolve.specs.Places.{type_places, value_places}
use Rattle.resolve.specs.Program.{Program, IsAssignment}
use Rattle.resolve.specs.Qualified.{qualified, qualified_in, MeanValues}
use Rattle.resolve.proofs.Exclusion.{one_module, one_name}

-- at most one fault is the first in a list
abbrev pub OneInList : Type 0
OneInList = (M a : Name) (k : Shape) (e f : NameFault) → IsFirstInList M a k e → IsFirstInList M a k f →
    ReportsAlike e f

same : {X : Type 0} {a b : X} → Some a ≡ Some b → a ≡ b
same h = cc

seen : {A B : Type 0} (f : A → B) (xs : List A) (ys : List B) (n : ℕ) (x : A) → map f xs ≡ ys →
    slice_get xs n ≡ Some x → slice_get ys n ≡ Some (f x)
seen f xs ys n x q e = ap (λ z. slice_get z n) (sym q) ∙ slice_get-map f xs n ∙ ap (option_map f) e

-- ---- names that aren't those of values

-- a name without a value isn't among names that mean values
not_among : (ms : List (Name × Module)) (M : Name) (rs : List (Name × Name)) (ps : List ℕ) (x : Name) (n : ℕ) →
    IsFirstUnknown ms M rs ps x n → MeanValues ms M rs → ⊥
not_among ms M rs ps x n u m = let r = m u.number u.owner x u.there in u.nothing r.0 r.1

not_before : (ms : List (Name × Module)) (M : Name) (rs : List (Name × Name)) (ps : List ℕ) (x y : Name) (m n : ℕ)
    (u : IsFirstUnknown ms M rs ps x m) (v : IsFirstUnknown ms M rs ps y n) → u.number < v.number → ⊥
not_before ms M rs ps x y m n u v l = let r = v.before u.number u.owner x l u.there in u.nothing r.0 r.1

one_unknown : (ms : List (Name × Module)) (M : Name) (rs : List (Name × Name)) (ps : List ℕ) (x y : Name) (m n : ℕ) →
    IsFirstUnknown ms M rs ps x m → IsFirstUnknown ms M rs ps y n → (x ≡ y) × (m ≡ n)
one_unknown ms M rs ps x y m n u v =
    elim (cases_order u.number v.number) [
      | inl e ↦ (let q : (u.owner, x) ≡ (v.owner, y) = same (sym u.there ∙ ap (slice_get rs) e ∙ v.there) in (ap (λ z. z.1) q, same (sym u.reported ∙ ap (slice_get ps) e ∙ v.reported)))
      | inr s ↦ elim s [
        | inl l ↦ absurd (not_before ms M rs ps x y m n u v l)
        | inr l ↦ absurd (not_before ms M rs ps y x n m v u l)
      ]
    ]

moved_unknown : (ms : List (Name × Module)) (M N : Name) (rs : List (Name × Name)) (ps : List ℕ) (x : Name) (n : ℕ) →
    M ≡ N → IsFirstUnknown ms M rs ps x n → IsFirstUnknown ms N rs ps x n
moved_unknown ms M N rs ps x n q u = subst (λ z. IsFirstUnknown ms z rs ps x n) q u

-- ---- one fault

module _ (p : Program) (ws : List TypeNode) (vs : List ValueAt) (given : IsWrittenAs p ws vs) where
  type_there : (i : ℕ) (w : TypeNode) → slice_get ws i ≡ Some w → slice_get p.types i ≡ Some (type_of w)
  type_there i w e = seen type_of ws p.types i w given.types e

  value_there : (i : ℕ) (v : ValueAt) → slice_get vs i ≡ Some v → slice_get p.values i ≡ Some (value_seen v)
  value_there i v e = seen value_seen vs p.values i v given.values e

  -- lists
  unsound : (e : NameFault) → IsFirstList p ws e → AreSound p.types → ⊥
  unsound e a s = a.wrong (s a.number (type_of a.written) (type_there a.number a.written a.there))

  list_before : (e f : NameFault) (a : IsFirstList p ws e) (b : IsFirstList p ws f) → a.number < b.number → ⊥
  list_before e f a b l = a.wrong (b.before a.number (type_of a.written) l (type_there a.number a.written a.there))

  list_here : OneInList → (e f : NameFault) (a : IsFirstList p ws e) (b : IsFirstList p ws f) →
      a.written ≡ b.written → ReportsAlike e f
  list_here one e f a b q =
      let s = subst (λ w. IsAssignment p w.assignment a.within a.assigns) q a.is_so in
      let m = one_module p b.written.assignment a.within a.assigns b.within b.assigns s b.is_so in
      let n = one_name p b.written.assignment a.within a.assigns b.within b.assigns s b.is_so in
      let g = subst (λ z. IsFirstInList z a.assigns b.written.shape e) m (subst (λ w. IsFirstInList a.within a.assigns w.shape e) q a.fault) in
      one b.within b.assigns b.written.shape e f (subst (λ z. IsFirstInList b.within z b.written.shape e) n g) b.fault

  one_list : OneInList → (e f : NameFault) → IsFirstList p ws e → IsFirstList p ws f → ReportsAlike e f
  one_list one e f a b =
      elim (cases_order a.number b.number) [
        | inl q ↦ list_here one e f a b (same (sym a.there ∙ ap (slice_get ws) q ∙ b.there))
        | inr s ↦ elim s [
          | inl l ↦ absurd (list_before e f a b l)
          | inr l ↦ absurd (list_before f e b a l)
        ]
      ]

  -- circles
  circle_here : (s t : SourceLocation) (a : IsFirstInCircle p ws s) (b : IsFirstInCircle p ws t) →
      a.written ≡ b.written → IsSameLocation s t
  circle_here s t a b q =
      let h = subst (λ w. IsAssignment p w.assignment (fault_module s) (fault_name s)) q a.is_so in (
        one_module p b.written.assignment (fault_module s) (fault_name s) (fault_module t) (fault_name t) h b.is_so,
        one_name p b.written.assignment (fault_module s) (fault_name s) (fault_module t) (fault_name t) h b.is_so,
        a.at ∙ ap (λ (w : TypeNode). w.at) q ∙ sym b.at,
      )

  one_circle : (s t : SourceLocation) → IsFirstInCircle p ws s → IsFirstInCircle p ws t → IsSameLocation s t
  one_circle s t a b =
      elim (cases_order a.number b.number) [
        | inl q ↦ circle_here s t a b (same (sym a.there ∙ ap (slice_get ws) q ∙ b.there))
        | inr o ↦ elim o [
          | inl l ↦ absurd (b.circle.1 a.number l a.circle.0)
          | inr l ↦ absurd (a.circle.1 b.number l b.circle.0)
        ]
      ]

  -- names in types
  type_unmeant : (s : SourceLocation) (a : IsFirstInType p ws s) → TypeMeans p a.number → ⊥
  type_unmeant s a m =
      not_among p.modules (fault_module s) (qualified_in (type_of a.written)) (type_places a.written) (fault_name s) s.at a.first
      (m (type_of a.written) (fault_module s) a.assigns (type_there a.number a.written a.there) a.is_so)

  type_here : (s t : SourceLocation) (a : IsFirstInType p ws s) (b : IsFirstInType p ws t) → a.written ≡ b.written →
      IsSameLocation s t
  type_here s t a b q =
      let h = subst (λ w. IsAssignment p w.assignment (fault_module s) a.assigns) q a.is_so in
      let m = one_module p b.written.assignment (fault_module s) a.assigns (fault_module t) b.assigns h b.is_so in
      let u = subst (λ w. IsFirstUnknown p.modules (fault_module s) (qualified_in (type_of w)) (type_places w) (fault_name s) s.at) q a.first in
      let o = one_unknown p.modules (fault_module t) (qualified_in (type_of b.written)) (type_places b.written) (fault_name s) (fault_name t) s.at t.at
      (moved_unknown p.modules (fault_module s) (fault_module t) (qualified_in (type_of b.written)) (type_places b.written) (fault_name s) s.at m u) b.first in
      (m, o.0, o.1)

  one_type : (s t : SourceLocation) → IsFirstInType p ws s → IsFirstInType p ws t → IsSameLocation s t
  one_type s t a b =
      elim (cases_order a.number b.number) [
        | inl q ↦ type_here s t a b (same (sym a.there ∙ ap (slice_get ws) q ∙ b.there))
        | inr o ↦ elim o [
          | inl l ↦ absurd (type_unmeant s a (b.before a.number l))
          | inr l ↦ absurd (type_unmeant t b (a.before b.number l))
        ]
      ]

  -- names in values
  value_unmeant : (s : SourceLocation) (a : IsFirstInValue p vs s) → ValueMeans p a.number → ⊥
  value_unmeant s a m =
      not_among p.modules (fault_module s) (qualified (tree_of a.written.syntax)) (value_places a.written.syntax) (fault_name s) s.at a.first
      (m (value_seen a.written) (fault_module s) a.assigns (value_there a.number a.written a.there) a.is_so)

  value_here : (s t : SourceLocation) (a : IsFirstInValue p vs s) (b : IsFirstInValue p vs t) → a.written ≡ b.written →
      IsSameLocation s t
  value_here s t a b q =
      let h = subst (λ w. IsAssignment p w.assignment (fault_module s) a.assigns) q a.is_so in
      let m = one_module p b.written.assignment (fault_module s) a.assigns (fault_module t) b.assigns h b.is_so in
      let u = subst (λ w. IsFirstUnknown p.modules (fault_module s) (qualified (tree_of w.syntax)) (value_places w.syntax) (fault_name s) s.at) q a.first in
      let o = one_unknown p.modules (fault_module t) (qualified (tree_of b.written.syntax)) (value_places b.written.syntax) (fault_name s) (fault_name t) s.at t.at
      (moved_unknown p.modules (fault_module s) (fault_module t) (qualified (tree_of b.written.syntax)) (value_places b.written.syntax) (fault_name s) s.at m u) b.first in
      (m, o.0, o.1)

  one_value : (s t : SourceLocation) → IsFirstInValue p vs s → IsFirstInValue p vs t → IsSameLocation s t
  one_value s t a b =
      elim (cases_order a.number b.number) [
        | inl q ↦ value_here s t a b (same (sym a.there ∙ ap (slice_get vs) q ∙ b.there))
        | inr o ↦ elim o [
          | inl l ↦ absurd (value_unmeant s a (b.before a.number l))
          | inr l ↦ absurd (value_unmeant t b (a.before b.number l))
        ]
      ]

  pub one_fault : OneInList → (e f : NameFault) → IsFirstOfProgram p ws vs e → IsFirstOfProgram p ws vs f → ReportsAlike e f
  one_fault one e f (in_list a) (in_list b) = one_list one e f a b
  one_fault one e (faults.Circular t) (in_list a) (in_circle g b) = absurd (unsound e a g)
  one_fault one e (faults.UnknownName t) (in_list a) (in_type g d b) = absurd (unsound e a g)
  one_fault one e (faults.UnknownName t) (in_list a) (in_value g d m b) = absurd (unsound e a g)
  one_fault one (faults.Circular s) f (in_circle h a) (in_list b) = absurd (unsound f b h)
  one_fault one (faults.Circular s) (faults.Circular t) (in_circle h a) (in_circle g b) = one_circle s t a b
  one_fault one (faults.Circular s) (faults.UnknownName t) (in_circle h a) (in_type g d b) = absurd (d a.number a.circle.0)
  one_fault one (faults.Circular s) (faults.UnknownName t) (in_circle h a) (in_value g d m b) = absurd (d a.number a.circle.0)
  one_fault one (faults.UnknownName s) f (in_type h c a) (in_list b) = absurd (unsound f b h)
  one_fault one (faults.UnknownName s) (faults.Circular t) (in_type h c a) (in_circle g b) = absurd (c b.number b.circle.0)
  one_fault one (faults.UnknownName s) (faults.UnknownName t) (in_type h c a) (in_type g d b) = one_type s t a b
  one_fault one (faults.UnknownName s) (faults.UnknownName t) (in_type h c a) (in_value g d m b) = absurd (type_unmeant s a (m a.number))
  one_fault one (faults.UnknownName s) f (in_value h c n a) (in_list b) = absurd (unsound f b h)
  one_fault one (faults.UnknownName s) (faults.Circular t) (in_value h c n a) (in_circle g b) = absurd (c b.number b.circle.0)
  one_fault one (faults.UnknownName s) (faults.UnknownName t) (in_value h c n a) (in_type g d b) = absurd (type_unmeant t b (n b.number))
  one_fault one (faults.UnknownName s) (faults.UnknownName t) (in_value h c n a) (in_value g d m b) = one_value s t a b
