-- Modules have at most one first place at which a limit is passed.
use Rattle.std.proofs.Common.{◌≡◌, ◌⊎◌, inl, inr, ℕ, zero, suc, ◌+◌, ◌++◌, ◌<◌, ◌≤◌, List, [], ◌∷◌, length, map, Some, take, refl, sym, subst, ap, ◌∙◌, arith}
use Rattle.std.specs.Prelude.{slice_get}
use Rattle.std.proofs.lemmas.Bool.{cases_order}
use Rattle.std.proofs.lemmas.Option.{same_Some, slice_get_within}
use Rattle.trees.specs.Values.{name_at}
use Rattle.trees.specs.declared.location.SourceLocation.{SourceLocation}
use Rattle.trees.specs.declared.module.Assignment.{Assignment}
use Rattle.trees.specs.declared.module.Assignment.TheVariants as givens
use Rattle.trees.specs.declared.module.Module.{Module}
use Rattle.trees.specs.Modules.{AssignmentTree, assignment_tree_of as given_of, module_tree_of}
use Rattle.names.specs.declared.fault.NameFault.{NameFault}
use Rattle.names.specs.declared.fault.NameFault.TheVariants as faults
use Rattle.names.specs.declared.fault.Limit.{Limit}
use Rattle.names.specs.declared.fault.Limit.TheVariants as limits
use Rattle.names.specs.First.{IsModulePast, IsPassedLimitAt, IsPastAt, IsPastIn, IsOneTooMany, name_place}
use Rattle.names.specs.Modules.{AreFew, name_of, type_count, value_count, all_assignments}
use Rattle.names.specs.Faults.{IsSameLocation, ReportsAlike, fault_module, fault_name}
use Rattle.names.proofs.After.{types_count, values_count}
use Rattle.names.proofs.Counting.{passed_fault, past_more}

-- ---- how many come before

module _ (count : List AssignmentTree → ℕ) (add : (gs ks : List AssignmentTree) → count (gs ++ ks) ≡ count gs + count ks) where
  abbrev within_one : ℕ → List Assignment → ℕ
  within_one i gs = count (map given_of (take i gs))

  abbrev within_all : ℕ → List Module → ℕ
  within_all i ms = count (all_assignments (map module_tree_of (take i ms)))

  -- those before a later assignment
  more_here : (gs : List Assignment) (i j : ℕ) (g : Assignment) → i < j → slice_get gs i ≡ Some g →
      within_one i gs + count (given_of g ∷ []) ≤ within_one j gs
  more_here [] i j g l e = absurd cc
  more_here (h ∷ gs) i zero g l e = absurd (omega (arith, l))
  more_here (h ∷ gs) zero (suc j) g l e =
      let q : given_of h ≡ given_of g = ap given_of (same_Some h g e) in
      let a = add (given_of h ∷ []) (map given_of (take j gs)) in
      let b = ap (λ z. count (z ∷ [])) q in
      let c : count [] ≡ 0 = (let n = add [] [] in omega (arith, n)) in
      omega (arith, a, b, c)
  more_here (h ∷ gs) (suc i) (suc j) g l e =
      let r = more_here gs i j g (omega (arith, l)) e in
      let a = add (given_of h ∷ []) (map given_of (take i gs)) in
      let b = add (given_of h ∷ []) (map given_of (take j gs)) in
      omega (arith, r, a, b)

  -- all of them
  all_here : (gs : List Assignment) (i : ℕ) (g : Assignment) → slice_get gs i ≡ Some g →
      within_one i gs + count (given_of g ∷ []) ≤ count (map given_of gs)
  all_here [] i g e = absurd cc
  all_here (h ∷ gs) zero g e =
      let a = add (given_of h ∷ []) (map given_of gs) in
      let b = ap (λ z. count (given_of z ∷ [])) (same_Some h g e) in
      let c : count [] ≡ 0 = (let n = add [] [] in omega (arith, n)) in
      omega (arith, a, b, c)
  all_here (h ∷ gs) (suc i) g e =
      let r = all_here gs i g e in
      let a = add (given_of h ∷ []) (map given_of (take i gs)) in
      let b = add (given_of h ∷ []) (map given_of gs) in
      omega (arith, r, a, b)

  -- those before a later module
  more_modules : (ms : List Module) (i j : ℕ) (m : Module) → i < j → slice_get ms i ≡ Some m →
      within_all i ms + count (map given_of m.assignments.items) ≤ within_all j ms
  more_modules [] i j m l e = absurd cc
  more_modules (w ∷ ms) i zero m l e = absurd (omega (arith, l))
  more_modules (w ∷ ms) zero (suc j) m l e =
      let a = add (map given_of w.assignments.items) (all_assignments (map module_tree_of (take j ms))) in
      let b = ap (λ (z : Module). count (map given_of z.assignments.items)) (same_Some w m e) in
      let c : count [] ≡ 0 = (let n = add [] [] in omega (arith, n)) in
      omega (arith, a, b, c)
  more_modules (w ∷ ms) (suc i) (suc j) m l e =
      let r = more_modules ms i j m (omega (arith, l)) e in
      let a = add (map given_of w.assignments.items) (all_assignments (map module_tree_of (take i ms))) in
      let b = add (map given_of w.assignments.items) (all_assignments (map module_tree_of (take j ms))) in
      omega (arith, r, a, b)

  -- the assignment itself, and those before it, come before one in a later module
  later_module : (ms : List Module) (i j k n : ℕ) (m : Module) (g : Assignment) → i < j → slice_get ms i ≡ Some m →
      slice_get m.assignments.items k ≡ Some g →
      within_all i ms + within_one k m.assignments.items + count (given_of g ∷ []) ≤ within_all j ms + n
  later_module ms i j k n m g l e f =
      let a = more_modules ms i j m l e in
      let b = all_here m.assignments.items k g f in
      omega (arith, a, b)

-- ---- one place

-- before the place no limit is passed
not_yet : (l : Limit) (t v : ℕ) (g : Assignment) → IsOneTooMany l t v g → (t ≤ 4096) × (v ≤ 65536)
not_yet limits.Types t v (givens.Type a) p = (omega (arith, p.0), p.1)
not_yet limits.Values t v (givens.Value a) p = (p.0, omega (arith, p.1))
not_yet limits.Types t v (givens.Value a) p = absurd p
not_yet limits.Values t v (givens.Type a) p = absurd p
not_yet limits.Modules t v g p = absurd p
not_yet limits.Members t v g p = absurd p
not_yet limits.Items t v g p = absurd p
not_yet limits.NamedBit t v g p = absurd p
not_yet limits.Integer t v g p = absurd p

-- a limit is passed after it
then_past : (l : Limit) (t v n m : ℕ) (g : Assignment) → IsOneTooMany l t v g →
    t + type_count (given_of g ∷ []) ≤ n → v + value_count (given_of g ∷ []) ≤ m → n ≤ 4096 → m ≤ 65536 → ⊥
then_past limits.Types t v n m (givens.Type a) p x y z w = (let e = p.0 in absurd (omega (arith, e, x, z)))
then_past limits.Values t v n m (givens.Value a) p x y z w = (let e = p.1 in absurd (omega (arith, e, y, w)))
then_past limits.Types t v n m (givens.Value a) p x y z w = p
then_past limits.Values t v n m (givens.Type a) p x y z w = p
then_past limits.Modules t v n m g p x y z w = p
then_past limits.Members t v n m g p x y z w = p
then_past limits.Items t v n m g p x y z w = p
then_past limits.NamedBit t v n m g p x y z w = p
then_past limits.Integer t v n m g p x y z w = p

-- which of the limits is passed depends on the assignment
one_limit : (l k : Limit) (t v n m : ℕ) (g : Assignment) → IsOneTooMany l t v g → IsOneTooMany k n m g → l ≡ k
one_limit limits.Types limits.Types t v n m g p q = refl
one_limit limits.Values limits.Values t v n m g p q = refl
one_limit limits.Types limits.Values t v n m (givens.Type a) p q = absurd q
one_limit limits.Types limits.Values t v n m (givens.Value a) p q = absurd p
one_limit limits.Values limits.Types t v n m (givens.Type a) p q = absurd p
one_limit limits.Values limits.Types t v n m (givens.Value a) p q = absurd q
one_limit limits.Types limits.Modules t v n m g p q = absurd q
one_limit limits.Types limits.Members t v n m g p q = absurd q
one_limit limits.Types limits.Items t v n m g p q = absurd q
one_limit limits.Types limits.NamedBit t v n m g p q = absurd q
one_limit limits.Types limits.Integer t v n m g p q = absurd q
one_limit limits.Values limits.Modules t v n m g p q = absurd q
one_limit limits.Values limits.Members t v n m g p q = absurd q
one_limit limits.Values limits.Items t v n m g p q = absurd q
one_limit limits.Values limits.NamedBit t v n m g p q = absurd q
one_limit limits.Values limits.Integer t v n m g p q = absurd q
one_limit limits.Modules k t v n m g p q = absurd p
one_limit limits.Members k t v n m g p q = absurd p
one_limit limits.Items k t v n m g p q = absurd p
one_limit limits.NamedBit k t v n m g p q = absurd p
one_limit limits.Integer k t v n m g p q = absurd p

-- two faults of one list of assignments
not_later : (l k : Limit) (t v : ℕ) (gs : List Assignment) (a b : SourceLocation) (p : IsPastIn l t v gs a)
    (q : IsPastIn k t v gs b) → p.number < q.number → ⊥
not_later l k t v gs a b p q w =
    let n = not_yet k _ _ q.given q.passes in
    let x = more_here type_count types_count gs p.number q.number p.given w p.there in
    let y = more_here value_count values_count gs p.number q.number p.given w p.there in
    then_past l _ _ _ _ p.given p.passes (omega (arith, x)) (omega (arith, y)) n.0 n.1

one_here : (l k : Limit) (t v : ℕ) (gs : List Assignment) (a b : SourceLocation) → IsPastIn l t v gs a →
    IsPastIn k t v gs b → (l ≡ k) × (fault_name a ≡ fault_name b) × (a.at ≡ b.at)
one_here l k t v gs a b p q =
    elim (cases_order p.number q.number) [
      | inl e ↦ (let g = same_Some p.given q.given (sym p.there ∙ ap (λ z. slice_get gs z) e ∙ q.there) in (
        one_limit l k _ _ _ _ q.given (subst (λ z. IsOneTooMany l (t + type_count (map given_of (take p.number gs))) (v + value_count (map given_of (take p.number gs))) z) g p.passes) q.passes,
        p.named ∙ ap (λ z. name_of (given_of z)) g ∙ sym q.named,
        p.reported ∙ ap name_place g ∙ sym q.reported,
      ))
      | inr o ↦ elim o [
        | inl w ↦ absurd (not_later l k t v gs a b p q w)
        | inr w ↦ absurd (not_later k l t v gs b a q p w)
      ]
    ]

not_in_later : (l k : Limit) (ws : List Module) (a b : SourceLocation) (p : IsPastAt l ws a) (q : IsPastAt k ws b) →
    p.number < q.number → ⊥
not_in_later l k ws a b p q w =
    let n = not_yet k _ _ q.here.given q.here.passes in
    let i = within_one type_count types_count q.here.number q.written.assignments.items in
    let j = within_one value_count values_count q.here.number q.written.assignments.items in
    then_past l _ _ _ _ p.here.given p.here.passes
    (later_module type_count types_count ws p.number q.number p.here.number i p.written p.here.given w p.there p.here.there)
    (later_module value_count values_count ws p.number q.number p.here.number j p.written p.here.given w p.there p.here.there)
    n.0 n.1

in_same : (l k : Limit) (ws : List Module) (a b : SourceLocation) (p : IsPastAt l ws a) (q : IsPastAt k ws b) →
    p.number ≡ q.number → (l ≡ k) × IsSameLocation a b
in_same l k ws a b p q e =
    let w = same_Some p.written q.written (sym p.there ∙ ap (λ z. slice_get ws z) e ∙ q.there) in
    let t = λ (z : ℕ). type_count (all_assignments (map module_tree_of (take z ws))) in
    let v = λ (z : ℕ). value_count (all_assignments (map module_tree_of (take z ws))) in
    let h = subst (λ z. IsPastIn l (t z) (v z) q.written.assignments.items a) e (subst (λ (z : Module). IsPastIn l (t p.number) (v p.number) z.assignments.items a) w p.here) in
    let r = one_here l k (t q.number) (v q.number) q.written.assignments.items a b h q.here in
    (r.0, (p.within ∙ ap (λ (z : Module). name_at z.name) w ∙ sym q.within, r.1, r.2))

one_past : (l k : Limit) (ws : List Module) (a b : SourceLocation) → IsPastAt l ws a → IsPastAt k ws b →
    (l ≡ k) × IsSameLocation a b
one_past l k ws a b p q =
    elim (cases_order p.number q.number) [
      | inl e ↦ in_same l k ws a b p q e
      | inr o ↦ elim o [
        | inl w ↦ absurd (not_in_later l k ws a b p q w)
        | inr w ↦ absurd (not_in_later k l ws b a q p w)
      ]
    ]

one_module : (ws : List Module) (a b : SourceLocation) → IsModulePast ws a → IsModulePast ws b → IsSameLocation a b
one_module ws a b p q =
    let w = same_Some p.0 q.0 (sym p.1 ∙ q.1) in
    (p.2 ∙ ap (λ (z : Module). name_at z.name) w ∙ sym q.2, p.3 ∙ ap (λ (z : Module). name_at z.name) w ∙ sym q.3, p.4 ∙ ap (λ (z : Module). z.name.at) w ∙ sym q.4)

many_modules : (ws : List Module) (a : SourceLocation) → IsModulePast ws a → length ws ≤ 256 → ⊥
many_modules ws a p n = let l = slice_get_within ws 256 p.0 p.1 in absurd (omega (arith, l, n))

abbrev Passed : Limit → List Module → SourceLocation → Type 0
Passed l ws s = ((l ≡ limits.Modules) × IsModulePast ws s) ⊎ ((length ws ≤ 256) × IsPastAt l ws s)

which : (l : Limit) (ws : List Module) (s : SourceLocation) → IsPassedLimitAt ws (faults.Limit l s) → Passed l ws s
which limits.Modules ws s p = inl (refl, p)
which limits.Types ws s p = inr p
which limits.Values ws s p = inr p
which limits.Members ws s p = absurd p
which limits.Items ws s p = absurd p
which limits.NamedBit ws s p = absurd p
which limits.Integer ws s p = absurd p

two_limits : (l k : Limit) (ws : List Module) (s t : SourceLocation) → Passed l ws s → Passed k ws t →
    (l ≡ k) × IsSameLocation s t
two_limits l k ws s t (inl p) (inl q) = (p.0 ∙ sym q.0, one_module ws s t p.1 q.1)
two_limits l k ws s t (inl p) (inr q) = absurd (many_modules ws s p.1 q.0)
two_limits l k ws s t (inr p) (inl q) = absurd (many_modules ws t q.1 p.0)
two_limits l k ws s t (inr p) (inr q) = one_past l k ws s t p.1 q.1

pub one_passed : (ws : List Module) (e f : NameFault) → IsPassedLimitAt ws e → IsPassedLimitAt ws f → ReportsAlike e f
one_passed ws faults.Memory f p q = tt
one_passed ws (faults.Limit l s) faults.Memory p q = tt
one_passed ws (faults.Limit l s) (faults.Limit k t) p q = two_limits l k ws s t (which l ws s p) (which k ws t q)
one_passed ws (faults.Limit l s) (faults.Twice t) p q = absurd q
one_passed ws (faults.Limit l s) (faults.UnknownName t) p q = absurd q
one_passed ws (faults.Limit l s) (faults.NotExported t) p q = absurd q
one_passed ws (faults.Limit l s) (faults.Circular t) p q = absurd q
one_passed ws (faults.Limit l s) (faults.UnknownModule t) p q = absurd q
one_passed ws (faults.Twice s) f p q = absurd p
one_passed ws (faults.UnknownName s) f p q = absurd p
one_passed ws (faults.NotExported s) f p q = absurd p
one_passed ws (faults.Circular s) f p q = absurd p
one_passed ws (faults.UnknownModule s) f p q = absurd p

-- modules that pass a limit are not few
pub past_few : (l : Limit) (ws : List Module) (s : SourceLocation) → IsPassedLimitAt ws (faults.Limit l s) →
    AreFew (map module_tree_of ws) → ⊥
past_few limits.Modules ws s p n =
    let f = passed_fault ws (faults.Limit limits.Modules s) p in
    let l = slice_get_within (map module_tree_of ws) 256 f.tree f.there in
    let m = n.modules in
    absurd (omega (arith, l, m))
past_few limits.Types ws s p n =
    let l = past_more type_count types_count 4096 (map module_tree_of ws) (fault_module s) (fault_name s) (passed_fault ws (faults.Limit limits.Types s) p) in
    let m = n.types in
    absurd (omega (arith, l, m))
past_few limits.Values ws s p n =
    let l = past_more value_count values_count 65536 (map module_tree_of ws) (fault_module s) (fault_name s) (passed_fault ws (faults.Limit limits.Values s) p) in
    let m = n.values in
    absurd (omega (arith, l, m))
past_few limits.Members ws s p n = p
past_few limits.Items ws s p n = p
past_few limits.NamedBit ws s p n = p
past_few limits.Integer ws s p n = p
