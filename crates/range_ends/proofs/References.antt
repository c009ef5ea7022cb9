-- What values refer to.
use Rattle.std.proofs.Common.{◌≡◌, ◌⊎◌, ◌↔◌, inl, inr, ℕ, zero, suc, ◌+◌, ◌<◌, ◌≤◌, List, [], ◌∷◌, ◌++◌, length, Option, Some, None, refl, sym, ap, ◌∙◌, arith, subst, get_or}
use Rattle.std.specs.Prelude.{slice_get}
use Rattle.std.proofs.lemmas.Option.{slice_get_within}
use Rattle.trees.specs.Values.{Name, Tree, reference}
use Rattle.names.specs.declared.scope.Assigned.{Assigned}
use Rattle.names.specs.declared.scope.Assigned.TheVariants as assigned
use Rattle.names.specs.Names.{Module, Meaning, Refers, bare, within, across}
use Rattle.resolve.specs.Program.{Program, IsThere, IsWhole}
use Rattle.type_table.specs.Walks.{IsWithin}
use Rattle.range_ends.specs.Ends.{IsValueAt}
use Rattle.range_ends.specs.proving.Steps.{MeansValue, RefersTo, listed, AreReferred}

pub some_same : {X : Type 0} (x y : X) → Some x ≡ Some y → x ≡ y
some_same x y e = cc

-- what a name refers to is what it means
pub any_meaning : (ms : List (Name × Module)) (M : Name) (q : Option Name) (x : Name) (a : Assigned) →
    Refers ms M q x a →
    Meaning ms M x a
any_meaning ms M q x a (bare m) = m
any_meaning ms M q x a (within m) = m
any_meaning ms M q x a (across m N e f h) = h

pub means_there : (p : Program) (M : Name) (n : Tree) (j : ℕ) → IsWhole p → MeansValue p M n j → j < length p.values
means_there p M (reference q x) j w m = w.names M x (assigned.Value j) (any_meaning p.modules M q x (assigned.Value j) m)
means_there p M n j w m = absurd m

pub value_there : (p : Program) (M : Name) (q : Option Name) (x : Name) (r : Option Assigned) (i : ℕ) →
    ((N z : Name) (a : Assigned) → Meaning p.modules N z a → IsThere p a) →
    ((a : Assigned) → (r ≡ Some a ↔ Refers p.modules M q x a)) →
    r ≡ Some (assigned.Value i) →
    i < length p.values
value_there p M q x r i w h f =
    w M x (assigned.Value i) (any_meaning p.modules M q x (assigned.Value i) ((h (assigned.Value i)).0 f))

-- a number is that of only one value in one module
pub value_once : (p : Program) (i : ℕ) (M N : Name) (n m : Tree) →
    IsValueAt p i M n →
    IsValueAt p i N m →
    (M ≡ N) × (n ≡ m)
value_once p i M N n m a b =
    let v : a.value ≡ b.value = some_same a.value b.value (sym a.there ∙ b.there) in
    let f = some_same (a.is_so.owner, a.assigns) (b.is_so.owner, b.assigns)
    (sym a.is_so.assigned ∙ ap (λ w. slice_get p.assignments w.assignment) v ∙ b.is_so.assigned) in
    let g = some_same (M, a.is_so.tags) (N, b.is_so.tags)
    (sym a.is_so.header ∙ ap (λ w. slice_get p.headers w.0) f ∙ b.is_so.header) in
    (ap (λ w. w.0) g, sym a.notation ∙ ap (λ w. w.notation) v ∙ b.notation)

pub its_meaning : (p : Program) (i : ℕ) (M : Name) (n : Tree) (j : ℕ) →
    IsValueAt p i M n →
    RefersTo p i j →
    MeansValue p M n j
its_meaning p i M n j a r =
    let e = value_once p i r.within M r.notation n r.at a in
    subst (λ N. MeansValue p N n j) e.0 (subst (λ t. MeansValue p r.within t j) e.1 r.means)

pub refers_within : (p : Program) (os : List (Option ℕ)) → IsWhole p → AreReferred p os → IsWithin (listed os) (length os)
refers_within p os w a i j e =
    let r = (a.each i j).0 e in
    let l = means_there p r.within r.notation j w r.means in
    omega (arith, l, a.all)

-- the list of what values refer to, one by one

pub listed_read : (os : List (Option ℕ)) (i : ℕ) (d o : Option ℕ) → i < length os → get_or os i d ≡ o → listed os i ≡ o
listed_read [] i d o l e = absurd (omega (arith, l))
listed_read (x ∷ os) zero d o l e = e
listed_read (x ∷ os) (suc i) d o l e = listed_read os i d o (omega (arith, l)) e

listed_front : (os : List (Option ℕ)) (o : Option ℕ) (i : ℕ) → i < length os → listed (os ++ o ∷ []) i ≡ listed os i
listed_front [] o i l = absurd (omega (arith, l))
listed_front (x ∷ os) o zero l = refl
listed_front (x ∷ os) o (suc i) l = listed_front os o i (omega (arith, l))

listed_end : (os : List (Option ℕ)) (o : Option ℕ) → listed (os ++ o ∷ []) (length os) ≡ o
listed_end [] o = refl
listed_end (x ∷ os) o = listed_end os o

listed_over : (os : List (Option ℕ)) (i : ℕ) → length os ≤ i → listed os i ≡ None
listed_over [] i l = refl
listed_over (x ∷ os) zero l = absurd (omega (arith, l))
listed_over (x ∷ os) (suc i) l = listed_over os i (omega (arith, l))

below_or : (i n : ℕ) → i < n + 1 → (i < n) ⊎ (i ≡ n)
below_or zero zero l = inr refl
below_or zero (suc n) l = inl (omega arith)
below_or (suc i) zero l = absurd (omega (arith, l))
below_or (suc i) (suc n) l =
    elim (below_or i n (omega (arith, l))) [
      | inl h ↦ inl (omega (arith, h))
      | inr h ↦ inr (ap suc h)
    ]

under_or : (i n : ℕ) → (i < n) ⊎ (n ≤ i)
under_or i zero = inr (omega arith)
under_or zero (suc n) = inl (omega arith)
under_or (suc i) (suc n) =
    elim (under_or i n) [
      | inl h ↦ inl (omega (arith, h))
      | inr h ↦ inr (omega (arith, h))
    ]

-- the first n values
pub record AreFirst (p : Program) (os : List (Option ℕ)) (n : ℕ) : Type 0 where
  pub long : length os ≡ n
  pub each : (i j : ℕ) → i < n → (listed os i ≡ Some j ↔ RefersTo p i j)

length_push : {X : Type 0} (xs : List X) (x : X) → length (xs ++ x ∷ []) ≡ length xs + 1
length_push [] x = refl
length_push (y ∷ xs) x = let e = length_push xs x in omega (arith, e)

pub first_more : (p : Program) (os qs : List (Option ℕ)) (o : Option ℕ) (n : ℕ) → AreFirst p os n → qs ≡ os ++ o ∷ [] → ((j : ℕ) → (o ≡ Some j ↔ RefersTo p n j)) → AreFirst p qs (n + 1)
first_more p os qs o n a e h = rw e (record { long = let l = length_push os o in omega (arith, l, a.long); each = λ i j l. go i j (below_or i n l) })
  where
    go : (i j : ℕ) → (i < n) ⊎ (i ≡ n) → (listed (os ++ o ∷ []) i ≡ Some j ↔ RefersTo p i j)
    go i j (inl l) = subst (λ z. z ≡ Some j ↔ RefersTo p i j) (sym (listed_front os o i (omega (arith, l, a.long)))) (a.each i j l)
    go i j (inr q) =
        let f : listed (os ++ o ∷ []) i ≡ o = ap (listed (os ++ o ∷ [])) (q ∙ sym a.long) ∙ listed_end os o in
        subst (λ z. z ≡ Some j ↔ RefersTo p i j) (sym f) (subst (λ k. o ≡ Some j ↔ RefersTo p k j) (sym q) (h j))

pub first_all : (p : Program) (os : List (Option ℕ)) (n : ℕ) → AreFirst p os n → n ≡ length p.values → AreReferred p os
first_all p os n a e = record { all = a.long ∙ e; each = λ i j. go i j (under_or i n) }
  where
    go : (i j : ℕ) → (i < n) ⊎ (n ≤ i) → (listed os i ≡ Some j ↔ RefersTo p i j)
    go i j (inl l) = a.each i j l
    go i j (inr l) = (
      λ f. (let g : None ≡ Some j = sym (listed_over os i (omega (arith, l, a.long))) ∙ f in absurd cc),
      λ r. absurd (let w = slice_get_within p.values i r.at.value r.at.there in omega (arith, w, l, e)),
    )
