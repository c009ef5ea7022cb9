-- One fault of ranges is the first.
use Rattle.std.proofs.Common.{◌≡◌, ◌⊎◌, inl, inr, ℕ, zero, suc, ◌<◌, List, [], ◌∷◌, map, Some, None, refl, sym, ap, ◌∙◌, subst, arith}
use Rattle.std.specs.Prelude.{slice_get, take}
use Rattle.std.proofs.lemmas.Int.{ints}
use Rattle.trees.specs.declared.constraint.EndSyntax.{EndSyntax}
use Rattle.trees.specs.declared.constraint.RangeSyntax.{RangeSyntax}
use Rattle.trees.specs.declared.constraint.RangeSyntax.TheVariants as syntax
use Rattle.trees.specs.Constraints.{EndTree, RangeTree, between, end_of, range_of}
use Rattle.trees.specs.Values.{Name, Tree, reference}
use Rattle.names.specs.declared.scope.Assigned.TheVariants as assigned
use Rattle.type_table.specs.Table.{WrittenKind}
use Rattle.resolve.specs.Program.{Program}
use Rattle.range_ends.specs.Answers.{IsOf}
use Rattle.range_ends.specs.Ends.{EndIs, IsValueAt, Means, ReferencePath, there, onward, HasNoNumber, RefersTo, RefersFar, directly, through, IsMetTwice, here, later, IsCircularEnd, notation_of}
use Rattle.range_ends.specs.Ranges.{IsEnd, IsRange, AreRanges}
use Rattle.range_ends.specs.First.{HaveOneMeaning, IsEndWrong, IsTurnedAt, IsBetweenWrong, of_lower, of_upper, of_both, IsRangeWrong, IsFirstWrong, ReportsSame}
use Rattle.range_ends.specs.declared.written_ranges.Counted.{Counted}
use Rattle.range_ends.specs.declared.written_ranges.RangeFault.{RangeFault}
use Rattle.range_ends.specs.declared.written_ranges.RangeFault.TheVariants as faults
use Rattle.range_ends.proofs.References.{any_meaning, value_once, some_same}

value_same : (i j : ℕ) → assigned.Value i ≡ assigned.Value j → i ≡ j
value_same i j e = cc

module _ (p : Program) (k : WrittenKind) (once : HaveOneMeaning p) where
  -- ---- a circle has one first value, and a notation that leads to nothing leads into none

  means_once : (M : Name) (n : Tree) (i j : ℕ) → Means p k M n i → Means p k M n j → i ≡ j
  means_once M (reference q x) i j a b =
      value_same i j (once M x (assigned.Value i) (assigned.Value j)
      (any_meaning p.modules M q x (assigned.Value i) a.1)
      (any_meaning p.modules M q x (assigned.Value j) b.1))
  means_once M n i j a b = absurd a

  on_once : (i j h : ℕ) → RefersTo p k i j → RefersTo p k i h → j ≡ h
  on_once i j h a b =
      let e = value_once p i a.within b.within a.notation b.notation a.at b.at in
      means_once b.within b.notation j h
      (subst (λ N. Means p k N b.notation j) e.0 (subst (λ n. Means p k a.within n j) e.1 a.means)) b.means

  one_further : (i j h : ℕ) → RefersFar p k i j → RefersTo p k j h → RefersFar p k i h
  one_further i j h (directly t) s = through j t (directly s)
  one_further i j h (through g t r) s = through g t (one_further g j h r s)

  -- what a value of a circle leads to is in the circle
  round_on : (i j : ℕ) → RefersFar p k i i → RefersTo p k i j → RefersFar p k j j
  round_on i j (directly t) s = let e = on_once i i j t s in subst (λ z. RefersFar p k z z) e (directly t)
  round_on i j (through h t r) s =
      let e = on_once i h j t s in
      subst (λ z. RefersFar p k z z) e (one_further h i h r t)

  twice_once : (i v u : ℕ) → IsMetTwice p k i v → IsMetTwice p k i u → v ≡ u
  twice_once i v u (here a) (here b) = refl
  twice_once i v u (here a) (later j n t b) = absurd (n a)
  twice_once i v u (later j n t a) (here b) = absurd (n b)
  twice_once i v u (later j n t a) (later h m s b) =
      twice_once h v u (subst (λ z. IsMetTwice p k z v) (on_once i j h t s) a) b

  round_once : (M : Name) (n : Tree) (v u : ℕ) → IsCircularEnd p k M n v → IsCircularEnd p k M n u → v ≡ u
  round_once M n v u a b =
      let e = means_once M n a.start b.start a.means b.means in
      twice_once b.start v u (subst (λ z. IsMetTwice p k z v) e a.twice) b.twice

  -- a value on the way into a circle leads on
  leads_somewhere : (i v : ℕ) → IsMetTwice p k i v → (j : ℕ) × RefersTo p k i j
  leads_somewhere i v (here (directly t)) = (i, t)
  leads_somewhere i v (here (through j t r)) = (j, t)
  leads_somewhere i v (later j n t m) = (j, t)

  twice_on : (i j v : ℕ) → IsMetTwice p k i v → RefersTo p k i j → (u : ℕ) × IsMetTwice p k j u
  twice_on i j v (here r) t = (j, here (round_on i j r t))
  twice_on i j v (later h n s m) t = (v, subst (λ z. IsMetTwice p k z v) (on_once i h j s t) m)

  lost_apart : (i v : ℕ) (N K : Name) (m l : Tree) →
      IsMetTwice p k i v →
      IsValueAt p i N m →
      ReferencePath p k N m K l →
      ((j : ℕ) → Means p k K l j → ⊥) → ⊥
  lost_apart i v N K m l t at there alone =
      let s = leads_somewhere i v t in
      let e = value_once p i s.1.within N s.1.notation m s.1.at at in
      alone s.0 (subst (λ z. Means p k z m s.0) e.0 (subst (λ z. Means p k s.1.within z s.0) e.1 s.1.means))
  lost_apart i v N K m l t at (onward {N = O} {m = o} j means to rest) alone =
      let u = twice_on i j v t (record { within = N; notation = m; at = at; means = means }) in
      lost_apart j u.0 O K o l u.1 to rest alone

  lost_from : (M K : Name) (n l : Tree) (i v : ℕ) →
      Means p k M n i →
      IsMetTwice p k i v →
      ReferencePath p k M n K l →
      ((j : ℕ) → Means p k K l j → ⊥) → ⊥
  lost_from M K n l i v a t there alone = alone i a
  lost_from M K n l i v a t (onward {N = N} {m = m} j means to rest) alone =
      lost_apart j v N K m l (subst (λ z. IsMetTwice p k z v) (means_once M n i j a means) t) to rest alone

  lost_or_round : (M : Name) (n : Tree) (v : ℕ) → HasNoNumber p k M n → IsCircularEnd p k M n v → ⊥
  lost_or_round M n v a b = lost_from M a.within n a.notation b.start v b.means b.twice a.chain a.no_value

  -- ---- of one end, of one range, of several

  module _ (M : Name) (of : Counted) where
    lost_and_round : (e : EndSyntax) (n v : ℕ) →
        IsEndWrong p k M of e (faults.NoEnd n) →
        IsEndWrong p k M of e (faults.Circular v) → ⊥
    lost_and_round e n v a b =
        elim a.1 [
          | inl l ↦ lost_or_round M _ v l b
          | inr s ↦ b.nothing s.0 s.1
        ]

    end_same : (e : EndSyntax) (f g : RangeFault) → IsEndWrong p k M of e f → IsEndWrong p k M of e g → ReportsSame f g
    end_same e (faults.NoEnd m) (faults.NoEnd n) a b = a.0 ∙ sym b.0
    end_same e (faults.NoEnd m) (faults.Circular v) a b = absurd (lost_and_round e m v a b)
    end_same e (faults.Circular v) (faults.NoEnd n) a b = absurd (lost_and_round e n v b a)
    end_same e (faults.Circular v) (faults.Circular w) a b = round_once M (notation_of (end_of e)) v w a b
    end_same e (faults.Reversed m) g a b = absurd a
    end_same e (faults.NoEnd m) (faults.Reversed n) a b = absurd b
    end_same e (faults.Circular v) (faults.Reversed n) a b = absurd b

module _ (p : Program) (k : WrittenKind) (M : Name) (of : Counted) where
  end_fine : (e : EndSyntax) (f : RangeFault) →
      IsEnd p k M (IsOf of) (end_of e) →
      IsEndWrong p k M of e f → ⊥
  end_fine e (faults.NoEnd n) g w =
      elim w.1 [
        | inl l ↦ l.nothing g.number g.is_so
        | inr s ↦ s.2 (subst (IsOf of) (sym (g.only_one s.0 s.1)) g.such)
      ]
  end_fine e (faults.Circular v) g w = w.nothing g.number g.is_so
  end_fine e (faults.Reversed n) g w = w

  lower_is : (a b c d : EndTree) → between (Some a) (Some b) ≡ between (Some c) (Some d) → (c ≡ a) × (d ≡ b)
  lower_is a b c d e = (cc, cc)

  both_fine : (a b : EndSyntax) (f : RangeFault) →
      IsTurnedAt p k M of a b f →
      IsEnd p k M (IsOf of) (end_of a) × IsEnd p k M (IsOf of) (end_of b)
  both_fine a b (faults.Reversed n) t =
      let e = lower_is (end_of a) (end_of b) t.1.lower t.1.upper t.1.is in
      (subst (IsEnd p k M (IsOf of)) e.0 t.1.least, subst (IsEnd p k M (IsOf of)) e.1 t.1.greatest)
  both_fine a b (faults.NoEnd n) t = absurd t
  both_fine a b (faults.Circular n) t = absurd t

  turned_same : (a b : EndSyntax) (f g : RangeFault) →
      IsTurnedAt p k M of a b f →
      IsTurnedAt p k M of a b g →
      ReportsSame f g
  turned_same a b (faults.Reversed m) (faults.Reversed n) t u = t.0 ∙ sym u.0
  turned_same a b (faults.Reversed m) (faults.NoEnd n) t u = absurd u
  turned_same a b (faults.Reversed m) (faults.Circular n) t u = absurd u
  turned_same a b (faults.NoEnd m) g t u = absurd t
  turned_same a b (faults.Circular m) g t u = absurd t

  between_same : HaveOneMeaning p → (a b : EndSyntax) (f g : RangeFault) →
      IsBetweenWrong p k M of a b f →
      IsBetweenWrong p k M of a b g →
      ReportsSame f g
  between_same o a b f g (of_lower w) (of_lower x) = end_same p k o M of a f g w x
  between_same o a b f g (of_lower w) (of_upper e x) = absurd (end_fine a f e w)
  between_same o a b f g (of_lower w) (of_both t) = absurd (end_fine a f (both_fine a b g t).0 w)
  between_same o a b f g (of_upper e w) (of_lower x) = absurd (end_fine a g e x)
  between_same o a b f g (of_upper e w) (of_upper d x) = end_same p k o M of b f g w x
  between_same o a b f g (of_upper e w) (of_both t) = absurd (end_fine b f (both_fine a b g t).1 w)
  between_same o a b f g (of_both t) (of_lower x) = absurd (end_fine a g (both_fine a b f t).0 x)
  between_same o a b f g (of_both t) (of_upper d x) = absurd (end_fine b g (both_fine a b f t).1 x)
  between_same o a b f g (of_both t) (of_both u) = turned_same a b f g t u

  range_same : HaveOneMeaning p → (r : RangeSyntax) (f g : RangeFault) →
      IsRangeWrong p k M of r f →
      IsRangeWrong p k M of r g →
      ReportsSame f g
  range_same o (syntax.Single e) f g a b = end_same p k o M of e f g a b
  range_same o (syntax.Between (Some x) (Some y)) f g a b = between_same o x.value y.value f g a b
  range_same o (syntax.Between (Some x) None) f g a b = end_same p k o M of x.value f g a b
  range_same o (syntax.Between None (Some y)) f g a b = end_same p k o M of y.value f g a b
  range_same o (syntax.Between None None) f g a b = absurd a

  turned_fine : (a b : EndSyntax) (f : RangeFault) →
      IsRange p k M (IsOf of) (between (Some (end_of a)) (Some (end_of b))) →
      IsTurnedAt p k M of a b f → ⊥
  turned_fine a b (faults.Reversed n) r t =
      let e = lower_is (end_of a) (end_of b) t.1.lower t.1.upper t.1.is in
      let l = r.2 t.1.least.number t.1.greatest.number
      (subst (λ z. EndIs p k M z t.1.least.number) e.0 t.1.least.is_so)
      (subst (λ z. EndIs p k M z t.1.greatest.number) e.1 t.1.greatest.is_so) in
      omega (arith, ints, l, t.1.reversed)
  turned_fine a b (faults.NoEnd n) r t = absurd t
  turned_fine a b (faults.Circular n) r t = absurd t

  between_fine : (a b : EndSyntax) (f : RangeFault) →
      IsRange p k M (IsOf of) (between (Some (end_of a)) (Some (end_of b))) →
      IsBetweenWrong p k M of a b f → ⊥
  between_fine a b f r (of_lower w) = end_fine a f r.0 w
  between_fine a b f r (of_upper e w) = end_fine b f r.1 w
  between_fine a b f r (of_both t) = turned_fine a b f r t

  range_fine : (r : RangeSyntax) (f : RangeFault) →
      IsRange p k M (IsOf of) (range_of r) →
      IsRangeWrong p k M of r f → ⊥
  range_fine (syntax.Single e) f r w = end_fine e f r w
  range_fine (syntax.Between (Some x) (Some y)) f r w = between_fine x.value y.value f r w
  range_fine (syntax.Between (Some x) None) f r w = end_fine x.value f r.0 w
  range_fine (syntax.Between None (Some y)) f r w = end_fine y.value f r.1 w
  range_fine (syntax.Between None None) f r w = w

  seen_range : (rs : List RangeSyntax) (n : ℕ) (r : RangeSyntax) →
      slice_get rs n ≡ Some r →
      slice_get (map range_of rs) n ≡ Some (range_of r)
  seen_range [] n r e = absurd cc
  seen_range (x ∷ rs) zero r e = let q : x ≡ r = cc in ap (λ z. Some (range_of z)) q
  seen_range (x ∷ rs) (suc n) r e = seen_range rs n r e

  in_order : (m n : ℕ) → (m ≡ n) ⊎ ((m < n) ⊎ (n < m))
  in_order zero zero = inl refl
  in_order zero (suc n) = inr (inl (omega arith))
  in_order (suc m) zero = inr (inr (omega arith))
  in_order (suc m) (suc n) =
      elim (in_order m n) [
        | inl e ↦ inl (ap suc e)
        | inr o ↦ elim o [ inl l ↦ inr (inl (omega (arith, l))) | inr l ↦ inr (inr (omega (arith, l))) ]
      ]

  not_before : (rs : List RangeSyntax) (f g : RangeFault) (a : IsFirstWrong p k M of rs f) (b : IsFirstWrong p k M of rs g) →
      a.number < b.number → ⊥
  not_before rs f g a b l =
      range_fine a.range f (b.before a.number (range_of a.range) l (seen_range rs a.number a.range a.there)) a.fault

  pub first_same : (rs : List RangeSyntax) (f g : RangeFault) →
      HaveOneMeaning p →
      IsFirstWrong p k M of rs f →
      IsFirstWrong p k M of rs g →
      ReportsSame f g
  first_same rs f g o a b =
      elim (in_order a.number b.number) [
        | inl e ↦ (let r : a.range ≡ b.range = some_same a.range b.range
            (sym a.there ∙ ap (slice_get rs) e ∙ b.there) in
            range_same o b.range f g (subst (λ z. IsRangeWrong p k M of z f) r a.fault) b.fault)
        | inr h ↦ elim h [
          | inl l ↦ absurd (not_before rs f g a b l)
          | inr l ↦ absurd (not_before rs g f b a l)
        ]
      ]

  one_of : (rs : List RangeTree) (n : ℕ) (r : RangeTree) →
      AreRanges p k M (IsOf of) rs →
      slice_get rs n ≡ Some r →
      IsRange p k M (IsOf of) r
  one_of [] n r a e = absurd cc
  one_of (x ∷ rs) zero r a e = let q : x ≡ r = cc in subst (IsRange p k M (IsOf of)) q a.0
  one_of (x ∷ rs) (suc n) r a e = one_of rs n r a.1 e

  pub first_wrong : (rs : List RangeSyntax) (f : RangeFault) →
      IsFirstWrong p k M of rs f →
      AreRanges p k M (IsOf of) (map range_of rs) → ⊥
  first_wrong rs f w a =
      range_fine w.range f (one_of (map range_of rs) w.number (range_of w.range) a (seen_range rs w.number w.range w.there)) w.fault

  pub take_before : (rs : List RangeTree) (i n : ℕ) (r : RangeTree) →
      AreRanges p k M (IsOf of) (take i rs) →
      n < i →
      slice_get rs n ≡ Some r →
      IsRange p k M (IsOf of) r
  take_before [] i n r a l e = absurd cc
  take_before (x ∷ rs) zero n r a l e = absurd (omega (arith, l))
  take_before (x ∷ rs) (suc i) zero r a l e = let q : x ≡ r = cc in subst (IsRange p k M (IsOf of)) q a.0
  take_before (x ∷ rs) (suc i) (suc n) r a l e = take_before rs i n r a.1 (omega (arith, l)) e
