-- Types have at most one first fault of their numbering, at one offset.
use Rattle.std.proofs.Common.{◌≡◌, inl, inr, ℕ, zero, suc, ◌+◌, ◌<◌, ◌≤◌, ◌++◌, List, [], ◌∷◌, length, Some, None, refl, sym, subst, ap, ◌∙◌, length-append, arith}
use Rattle.std.specs.Prelude.{slice_get}
use Rattle.std.proofs.lemmas.Bool.{cases_order}
use Rattle.std.proofs.lemmas.Option.{same_Some}
use Rattle.trees.specs.Values.{Name}
use Rattle.trees.specs.Types.{FormTree, a_simple, a_reference, a_list, an_elements, a_tagged}
use Rattle.trees.specs.declared.location.SourceLocation.{SourceLocation}
use Rattle.trees.specs.declared.module.TagDefault.{TagDefault}
use Rattle.trees.specs.declared.types.TypeForm.{TypeForm}
use Rattle.trees.specs.declared.types.TypeForm.TheVariants as forms
use Rattle.trees.specs.declared.types.TypeSyntax.{TypeSyntax}
use Rattle.trees.specs.declared.types.TypeSyntax.TheViews.{out-TypeSyntax}
use Rattle.names.specs.declared.fault.Limit.{Limit}
use Rattle.names.specs.declared.fault.Limit.TheVariants as limits
use Rattle.names.specs.declared.fault.NameFault.{NameFault}
use Rattle.names.specs.declared.fault.NameFault.TheVariants as faults
use Rattle.names.specs.Faults.{ReportsAlike, fault_module, fault_name}
use Rattle.names.specs.Names.{Module}
use Rattle.names.specs.Sources.{Source}
use Rattle.names.specs.proving.Distinct.{right}
use Rattle.names.specs.proving.Reports.{known, with_memory}
use Rattle.type_table.specs.Faults.{HasTooMany, IsFirstCircle, IsFirstNumbering, IsFirstSource, IsFormAt, IsWrittenAt}
use Rattle.type_table.specs.Numbering.{AreNumberedTypes, AreTops, IsKind, RefersToNothing, all_parts, form_parts, parts_of, type_form}
use Rattle.type_table.specs.Table.{AllUnfold, IsUnderlying, Type', next, walk}
use Rattle.type_table.specs.proving.Checks.{IsSourceFault}
use Rattle.type_table.specs.proving.Walks.{stops}
use Rattle.type_table.proofs.Numbered.{as_long, at}
use Rattle.type_table.proofs.Occurring.{nothing_not}
use Rattle.type_table.proofs.Once.{source_front, source_fronts, sources_there}
use Rattle.type_table.proofs.Queue.{all_append}
use Rattle.type_table.proofs.Queues.{equal, longer, shorter}
use Rattle.type_table.proofs.WrittenOnce.{written_fronts}

-- ---- a reference without a meaning

nothing_in : (ms : List (Name × Module)) (M x : Name) (a i : ℕ) (f : FormTree) → RefersToNothing ms M f x →
    length (form_parts a i f) ≡ 0
nothing_in ms M x a i (a_reference N y) h = refl
nothing_in ms M x a i (a_simple p) h = absurd h
nothing_in ms M x a i (a_list l m us) h = absurd h
nothing_in ms M x a i (an_elements e t) h = absurd h
nothing_in ms M x a i (a_tagged g w t) h = absurd h

one_nothing : (ms : List (Name × Module)) (M N x y : Name) (f : FormTree) → RefersToNothing ms M f x →
    RefersToNothing ms N f y → x ≡ y
one_nothing ms M N x y (a_reference K z) g h = sym g.0 ∙ h.0
one_nothing ms M N x y (a_simple p) g h = absurd g
one_nothing ms M N x y (a_list l m us) g h = absurd g
one_nothing ms M N x y (an_elements e t) g h = absurd g
one_nothing ms M N x y (a_tagged k w t) g h = absurd g

-- ---- offsets

one_form : (f : TypeForm TypeSyntax) (s t : SourceLocation) → IsFormAt f (faults.UnknownName s) →
    IsFormAt f (faults.UnknownName t) → s.at ≡ t.at
one_form (forms.Reference r) s t a b = a ∙ sym b
one_form (forms.Simple p) s t a b = absurd a
one_form (forms.List k m us) s t a b = absurd a
one_form (forms.Elements k u) s t a b = absurd a
one_form (forms.Tagged g w u) s t a b = absurd a

no_limit : (f : TypeForm TypeSyntax) (l : Limit) (s : SourceLocation) → IsFormAt f (faults.Limit l s) → ⊥
no_limit (forms.Reference r) l s a = a
no_limit (forms.Simple p) l s a = a
no_limit (forms.List k m us) l s a = a
no_limit (forms.Elements k u) l s a = a
no_limit (forms.Tagged g w u) l s a = a

unknown_at : (u : TypeSyntax) (s t : SourceLocation) → IsWrittenAt u (faults.UnknownName s) →
    IsWrittenAt u (faults.UnknownName t) → s.at ≡ t.at
unknown_at u s t (inl a) (inl b) = one_form (out-TypeSyntax u).form s t a b
unknown_at u s t (inl a) (inr b) = absurd b
unknown_at u s t (inr a) b = absurd a

limit_at : (u : TypeSyntax) (l k : Limit) (s t : SourceLocation) → IsWrittenAt u (faults.Limit l s) →
    IsWrittenAt u (faults.Limit k t) → s.at ≡ t.at
limit_at u l k s t (inl a) b = absurd (no_limit (out-TypeSyntax u).form l s a)
limit_at u l k s t (inr a) (inl b) = absurd (no_limit (out-TypeSyntax u).form k t b)
limit_at u l k s t (inr a) (inr b) = a ∙ sym b

module _ (ms : List (Name × Module)) (hs : List (Name × TagDefault)) (gs : List (ℕ × Name)) where
  -- the assignment of one type
  one_owner : (a o q : ℕ) (x y M N : Name) (d c : TagDefault) → slice_get gs a ≡ Some (o, x) →
      slice_get gs a ≡ Some (q, y) → slice_get hs o ≡ Some (M, d) → slice_get hs q ≡ Some (N, c) → (M ≡ N) × (x ≡ y)
  one_owner a o q x y M N d c e f g h =
      let p = same_Some (o, x) (q, y) (sym e ∙ f) in
      let r = same_Some (M, d) (N, c) (sym g ∙ ap (λ (z : ℕ × Name). slice_get hs z.0) p ∙ h) in
      (ap (λ (z : Name × TagDefault). z.0) r, ap (λ (z : ℕ × Name). z.1) p)

  -- two faults of one type
  module _ (i n : ℕ) (s : Source) (u : TypeSyntax) (l : n ≤ 65536) where
    not_limit : (x y : SourceLocation) → IsSourceFault ms hs gs i n s (faults.UnknownName x) →
        IsSourceFault ms hs gs i n s (faults.Limit limits.Types y) → ⊥
    not_limit x y a b =
        let z = nothing_in ms (fault_module x) (fault_name x) s.assignment i (type_form s.tree) a.5 in
        let w = b.4 in
        absurd (omega (arith, z, w, l))

    with_unknown : (x : SourceLocation) (f : NameFault) → IsSourceFault ms hs gs i n s (faults.UnknownName x) →
        IsSourceFault ms hs gs i n s f → IsWrittenAt u (faults.UnknownName x) → IsWrittenAt u f →
        ReportsAlike (faults.UnknownName x) f
    with_unknown x faults.Memory a b p q = tt
    with_unknown x (faults.UnknownName y) a b p q =
        let o = one_owner s.assignment a.0 b.0 a.1 b.1 (fault_module x) (fault_module y) a.2 b.2 a.3 b.3 a.4 b.4 in
        (o.0, one_nothing ms (fault_module x) (fault_module y) (fault_name x) (fault_name y) (type_form s.tree) a.5 b.5, unknown_at u x y p q)
    with_unknown x (faults.Limit limits.Types y) a b p q = absurd (not_limit x y a b)
    with_unknown x f a b p q = absurd b

    with_limit : (x : SourceLocation) (f : NameFault) → IsSourceFault ms hs gs i n s (faults.Limit limits.Types x) →
        IsSourceFault ms hs gs i n s f → IsWrittenAt u (faults.Limit limits.Types x) → IsWrittenAt u f →
        ReportsAlike (faults.Limit limits.Types x) f
    with_limit x faults.Memory a b p q = tt
    with_limit x (faults.UnknownName y) a b p q = absurd (not_limit y x b a)
    with_limit x (faults.Limit limits.Types y) a b p q =
        let o = one_owner s.assignment a.0 b.0 (fault_name x) (fault_name y) (fault_module x) (fault_module y) a.1 b.1 a.2 b.2 a.3 b.3 in
        (refl, (o.0, o.1, limit_at u limits.Types limits.Types x y p q))
    with_limit x f a b p q = absurd b

    one_source : (e f : NameFault) → IsSourceFault ms hs gs i n s e → IsSourceFault ms hs gs i n s f → IsWrittenAt u e →
        IsWrittenAt u f → ReportsAlike e f
    one_source faults.Memory f a b p q = tt
    one_source (faults.UnknownName x) f a b p q = with_unknown x f a b p q
    one_source (faults.Limit limits.Types x) f a b p q = with_limit x f a b p q
    one_source e f a b p q = absurd a

  module _ (roots : List Source) where
    -- where a type is numbered, it is no fault
    long_as : (before xs rest : List Source) (s : Source) (z : List Source) → roots ++ all_parts 0 before ≡ rest →
        xs ≡ before ++ s ∷ z →
        length rest + length (parts_of s.assignment (length before) s.tree) ≤ length (roots ++ all_parts 0 xs)
    long_as before xs rest s z a e =
        let k = 0 + length before in
        let n : k ≡ length before = omega arith in
        let p = ap (λ (j : ℕ). length (parts_of s.assignment j s.tree)) n in
        let q = ap (λ l. length (all_parts 0 l)) e ∙ ap length (all_append 0 before (s ∷ z)) in
        let h = length-append (all_parts 0 before) (all_parts k (s ∷ z)) in
        let g = length-append (parts_of s.assignment k s.tree) (all_parts (suc k) z) in
        let c = length-append roots (all_parts 0 xs) in
        let d = ap length (sym a) ∙ length-append roots (all_parts 0 before) in
        omega (arith, p, q, h, g, c, d)

    numbered_not : (before xs rest : List Source) (s : Source) (z : List Source) (n : ℕ) (ts : List Type') (e : NameFault) →
        (e ≡ faults.Memory → ⊥) → IsSourceFault ms hs gs (length before) (length rest) s e →
        roots ++ all_parts 0 before ≡ rest → xs ≡ before ++ s ∷ z → AreTops ms hs gs 0 n xs ts →
        length (roots ++ all_parts 0 xs) ≤ 65536 → ⊥
    numbered_not before xs rest s z n ts faults.Memory m f a q t l = m refl
    numbered_not before xs rest s z n ts (faults.UnknownName x) m f a q t l =
        let o : length before ≡ length before + 0 = omega arith in
        let there : slice_get xs (length before) ≡ Some s = ap (λ y. slice_get y (length before)) q ∙ ap (λ k. slice_get (before ++ s ∷ z) k) o ∙ right before (s ∷ z) 0 in
        let here = at ms hs gs 0 n (length before) xs ts s t there in
        let top = here.top in
        let w = one_owner s.assignment top.owner f.0 top.assigns f.1 top.within (fault_module x) here.t.default f.2 top.assigned f.3 top.header f.4 in
        nothing_not ms (fault_module x) (n + here.first) (type_form s.tree) here.t.kind (fault_name x) (subst (λ y. IsKind ms y (n + here.first) (type_form s.tree) here.t.kind) w.0 top.kind) f.5
    numbered_not before xs rest s z n ts (faults.Limit limits.Types x) m f a q t l =
        let b = long_as before xs rest s z a q in
        let c = f.4 in
        absurd (omega (arith, b, c, l))
    numbered_not before xs rest s z n ts e m f a q t l = f

    module _ (given : List TypeSyntax) where
      abbrev First : NameFault → Type 0
      First e = IsFirstSource ms hs gs roots given e

      source_of : (e : NameFault) → (e ≡ faults.Memory → ⊥) → IsFirstNumbering ms hs gs roots given e → First e
      source_of faults.Memory n a = absurd (n refl)
      source_of (faults.Limit l s) n a = a
      source_of (faults.Twice s) n a = a
      source_of (faults.UnknownName s) n a = a
      source_of (faults.NotExported s) n a = a
      source_of (faults.Circular s) n a = a
      source_of (faults.UnknownModule s) n a = a

      -- a fault before another one
      before_other : (e f : NameFault) → (e ≡ faults.Memory → ⊥) → (a : First e) (b : First f) (z : List Source) →
          b.before ≡ a.before ++ a.source ∷ z → ⊥
      before_other e f n a b z q =
          let l = b.few in
          numbered_not a.before b.before (a.before ++ a.source ∷ a.remaining) a.source z (length roots) b.types e n a.fault a.all q b.tops
          (omega (arith, ap length b.all, l))

      -- the place in the text
      same_written : (e f : NameFault) (a : First e) (b : First f) → a.before ≡ b.before → a.written ≡ b.written
      same_written e f a b q =
          let l : length a.front ≡ length b.front = a.long ∙ ap length q ∙ sym b.long in
          elim (written_fronts given a.front b.front a.others b.others a.written b.written a.queue b.queue) [
            | equal x y ↦ y
            | shorter z x ↦ (let m = ap length x in let k = length-append a.front (a.written ∷ z) in absurd (omega (arith, l, m, k)))
            | longer z x ↦ (let m = ap length x in let k = length-append b.front (b.written ∷ z) in absurd (omega (arith, l, m, k)))
          ]

      same_source : (e f : NameFault) (a : First e) (b : First f) → a.before ≡ b.before → a.source ≡ b.source →
          ReportsAlike e f
      same_source e f a b q r =
          let m = ap length (sym a.all) ∙ ap (λ l. length (roots ++ all_parts 0 l)) q ∙ ap length b.all in
          let i = length b.before in
          let n = length (b.before ++ b.source ∷ b.remaining) in
          let x = subst (λ z. IsSourceFault ms hs gs i n z e) r (subst (λ z. IsSourceFault ms hs gs i z a.source e) m (subst (λ l. IsSourceFault ms hs gs (length l) (length (a.before ++ a.source ∷ a.remaining)) a.source e) q a.fault)) in
          let w = subst (λ z. IsWrittenAt z e) (same_written e f a b q) a.at in
          one_source i n b.source b.written b.few e f x b.fault w b.at

      two_numbering : (e f : NameFault) → (e ≡ faults.Memory → ⊥) → (f ≡ faults.Memory → ⊥) → First e → First f →
          ReportsAlike e f
      two_numbering e f n k a b =
          elim (source_fronts roots a.before b.before a.remaining b.remaining a.source b.source a.all b.all) [
            | equal q r ↦ same_source e f a b q r
            | shorter z q ↦ absurd (before_other e f n a b z q)
            | longer z q ↦ absurd (before_other f e k b a z q)
          ]

      pub one_numbering : (e f : NameFault) → IsFirstNumbering ms hs gs roots given e →
          IsFirstNumbering ms hs gs roots given f → ReportsAlike e f
      one_numbering e f a b =
          elim (known e) [
            | inl q ↦ subst (λ z. ReportsAlike z f) (sym q) tt
            | inr n ↦ elim (known f) [
              | inl q ↦ subst (λ z. ReportsAlike e z) (sym q) (with_memory e)
              | inr k ↦ two_numbering e f n k (source_of e n a) (source_of f k b)
            ]
          ]

      -- where all types are numbered, there is no such fault
      pub numbering_not : (ts : List Type') (e : NameFault) → (e ≡ faults.Memory → ⊥) →
          IsFirstNumbering ms hs gs roots given e → AreNumberedTypes ms hs gs roots ts → length ts ≤ 65536 → ⊥
      numbering_not ts e n a all l =
          let s = source_of e n a in
          let w = source_front roots s.before s.remaining all.sources s.source s.all all.all in
          let k = as_long ms hs gs roots ts all in
          numbered_not s.before all.sources (s.before ++ s.source ∷ s.remaining) s.source w.0 (length roots) ts e n s.fault s.all w.1 all.tops
          (omega (arith, k, l, ap length all.all))

-- too many types are so at one assignment
pub one_too_many : (hs : List (Name × TagDefault)) (gs : List (ℕ × Name)) (roots : List Source) (M N x y : Name) →
    HasTooMany hs gs roots M x → HasTooMany hs gs roots N y → (M ≡ N) × (x ≡ y)
one_too_many hs gs roots M N x y a b =
    let ss = sources_there roots in
    let p = a.more ss.0 ss.1 in
    let q = b.more ss.0 ss.1 in
    let s = same_Some p.0 q.0 (sym p.1 ∙ q.1) in
    let e = sym p.2 ∙ ap (λ (z : Source). z.assignment) s ∙ q.2 in
    one_owner [] hs gs b.assignment a.owner b.owner x y M N a.default b.default (subst (λ z. slice_get gs z ≡ Some (a.owner, x)) e a.assigned) b.assigned a.header b.header

-- ---- types that come back to themselves

-- a walk of as many steps as there are types doesn't come to a core
no_core : (ts : List Type') (i c p : ℕ) → IsUnderlying ts i c → walk ts (length ts) i ≡ Some p → ⊥
no_core ts i c p u w =
    let few = u.few in
    let r = beyond u.steps (length ts) few in
    let n = stops (next ts) u.steps r.0 i c u.chain u.ends in
    let e : Some p ≡ None = sym w ∙ ap (λ k. walk ts k i) r.1 ∙ n in
    absurd cc
  where
    beyond : (a b : ℕ) → a < b → (r : ℕ) × (b ≡ a + suc r)
    beyond a zero l = absurd (omega (arith, l))
    beyond zero (suc b) l = (b, omega arith)
    beyond (suc a) (suc b) l = let r = beyond a b (omega (arith, l)) in (r.0, omega (arith, r.1))

pub unfolds_not : (ts : List Type') (p : ℕ) → IsFirstCircle ts p → AllUnfold ts → ⊥
unfolds_not ts p a u = let c = u a.start a.there in no_core ts a.start c.0 p c.1 a.chain

circle_before : (ts : List Type') (p q : ℕ) (a : IsFirstCircle ts p) (b : IsFirstCircle ts q) → a.start < b.start → ⊥
circle_before ts p q a b l = let c = b.before a.start l in no_core ts a.start c.0 p c.1 a.chain

pub one_circle : (ts : List Type') (p q : ℕ) → IsFirstCircle ts p → IsFirstCircle ts q → p ≡ q
one_circle ts p q a b =
    elim (cases_order a.start b.start) [
      | inl e ↦ same_Some p q (sym a.chain ∙ ap (walk ts (length ts)) e ∙ b.chain)
      | inr o ↦ elim o [
        | inl l ↦ absurd (circle_before ts p q a b l)
        | inr l ↦ absurd (circle_before ts q p b a l)
      ]
    ]
