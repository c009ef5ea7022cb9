-- Trees of forks, and forks that are added.
use Rattle.std.proofs.Common.{◌≡◌, ◌⊎◌, inl, inr, ℕ, zero, suc, ◌-◌, ◌≤◌, ◌/◌, ◌%◌, ◌==◌, List, [], ◌∷◌, ◌++◌, length, Option, Some, None, Bool, true, false, refl, sym, ap, ◌∙◌, subst, arith, option_map}
use Rattle.std.specs.Prelude.{slice_get, if◌then◌else◌, Result, Ok, Err, IfOk, OnOk}
use Rattle.std.proofs.lemmas.Option.{slice_get_within}
use Rattle.std.proofs.lemmas.Bool.{eqb-true}
use Rattle.type_table.specs.Walks.{onward}
use Rattle.range_ends.specs.declared.forks.Fork.{Fork}
use Rattle.range_ends.specs.proving.Trees.{branch_of, leaf_below, KeepBelow, IsLeaf, IsChangedBelow}

get_more : {A : Type 0} (xs : List A) (y x : A) (i : ℕ) → slice_get xs i ≡ Some x → slice_get (xs ++ y ∷ []) i ≡ Some x
get_more [] y x i e = absurd cc
get_more (z ∷ xs) y x zero e = e
get_more (z ∷ xs) y x (suc i) e = get_more xs y x i e

pub get_last : {A : Type 0} (xs : List A) (y : A) → slice_get (xs ++ y ∷ []) (length xs) ≡ Some y
get_last [] y = refl
get_last (z ∷ xs) y = get_last xs y

-- each element is where it was
abbrev pub KeepsElements : {A : Type 0} → List A → List A → Type 0
KeepsElements {A} xs ys = (i : ℕ) (x : A) → slice_get xs i ≡ Some x → slice_get ys i ≡ Some x

pub push_keeps : {A : Type 0} (xs ys : List A) (y : A) → ys ≡ xs ++ y ∷ [] → KeepsElements xs ys
push_keeps xs ys y e = λ i x h. ap (λ zs. slice_get zs i) e ∙ get_more xs y x i h

pub push_there : {A : Type 0} (xs ys : List A) (y : A) → ys ≡ xs ++ y ∷ [] → slice_get ys (length xs) ≡ Some y
push_there xs ys y e = ap (λ zs. slice_get zs (length xs)) e ∙ get_last xs y

-- ---- one fork more

-- a level down from a fork
down : (fs : List Fork) (l root n : ℕ) → Option ℕ
down fs l root n = onward (option_map (λ f. branch_of f n) (slice_get fs root)) (λ j. leaf_below fs l j (n / 2))

pub below_fork : (fs : List Fork) (l root n : ℕ) (f : Fork) →
    slice_get fs root ≡ Some f →
    leaf_below fs (suc l) root n ≡ leaf_below fs l (branch_of f n) (n / 2)
below_fork fs l root n f e = ap (λ o. onward (option_map (λ g. branch_of g n) o) (λ j. leaf_below fs l j (n / 2))) e

fork_of : (fs : List Fork) (l root n u : ℕ) (o : Option Fork) →
    slice_get fs root ≡ o →
    leaf_below fs (suc l) root n ≡ Some u →
    (f : Fork) × (slice_get fs root ≡ Some f) × (leaf_below fs l (branch_of f n) (n / 2) ≡ Some u)
fork_of fs l root n u None e h =
    let g = ap (λ o. onward (option_map (λ g. branch_of g n) o) (λ j. leaf_below fs l j (n / 2))) e in
    let f : None ≡ Some u = sym g ∙ h in
    absurd cc
fork_of fs l root n u (Some f) e h = (f, e, sym (below_fork fs l root n f e) ∙ h)

pub keep_below : (fs gs : List Fork) → KeepsElements fs gs → KeepBelow fs gs
keep_below fs gs k zero root n u h = h
keep_below fs gs k (suc l) root n u h =
    let f = fork_of fs l root n u (slice_get fs root) refl h in
    below_fork gs l root n f.0 (k root f.0 f.1) ∙ keep_below fs gs k l (branch_of f.0 n) (n / 2) u f.2

-- ---- a tree with one leaf

same_branch : (b : Bool) (at : ℕ) → (if b then at else at) ≡ at
same_branch true at = refl
same_branch false at = refl

pub leads_evenly : (fs gs : List Fork) (l at place leaf : ℕ) →
    KeepBelow fs gs →
    slice_get gs place ≡ Some (record { even = at; odd = at }) →
    ((n : ℕ) → leaf_below fs l at n ≡ Some leaf) →
    (n : ℕ) → leaf_below gs (suc l) place n ≡ Some leaf
leads_evenly fs gs l at place leaf k e h n =
    below_fork gs l place n (record { even = at; odd = at }) e
    ∙ ap (λ j. leaf_below gs l j (n / 2)) (same_branch (n % 2 == 0) at)
    ∙ k l at (n / 2) leaf (h (n / 2))

-- ---- a tree with one other leaf

-- the fork with one of its branches changed, the even one if the flag says so
abbrev pub turned : Bool → Fork → ℕ → Fork
turned true f j = record { even = j; odd = f.odd }
turned false f j = record { even = f.even; odd = j }

abbrev pub side : Bool → Fork → ℕ
side true f = f.even
side false f = f.odd

side_is : (b : Bool) (f : Fork) → (if b then f.even else f.odd) ≡ side b f
side_is true f = refl
side_is false f = refl

turned_on : (b : Bool) (f : Fork) (j : ℕ) → side b (turned b f j) ≡ j
turned_on true f j = refl
turned_on false f j = refl

same_side : (b c : Bool) (f : Fork) (j : ℕ) → (b ≡ c) ⊎ ((b ≡ c → ⊥) × (side b (turned c f j) ≡ side b f))
same_side true true f j = inl refl
same_side true false f j = inr ((λ e. absurd cc), refl)
same_side false true f j = inr ((λ e. absurd cc), refl)
same_side false false f j = inl refl

half_leaf : (number leaf n u w : ℕ) → IsLeaf (number / 2) leaf (n / 2) u w → IsLeaf number leaf n u w
half_leaf number leaf n u w (inl e) = inl e
half_leaf number leaf n u w (inr h) = inr ((λ e. h.0 (ap (λ z. z / 2) e)), h.1)

pub changed_below : (fs gs hs : List Fork) (l root changed place number leaf : ℕ) (f : Fork) (c : Bool) →
    (number % 2 == 0) ≡ c →
    slice_get fs root ≡ Some f →
    KeepBelow fs gs →
    IsChangedBelow fs gs l (branch_of f number) changed (number / 2) leaf →
    KeepBelow gs hs →
    slice_get hs place ≡ Some (turned c f changed) →
    IsChangedBelow fs hs (suc l) root place number leaf
changed_below fs gs hs l root changed place number leaf f c p e k h m t = λ n u a.
    let g = sym (below_fork fs l root n f e) ∙ a in
    let from = below_fork hs l place n (turned c f changed) t in
    let b : Bool = n % 2 == 0 in
    let on : leaf_below hs (suc l) place n ≡ leaf_below hs l (side b (turned c f changed)) (n / 2) =
    from ∙ ap (λ j. leaf_below hs l j (n / 2)) (side_is b (turned c f changed)) in
    elim (same_side b c f changed) [
      | inl q ↦ (
          let there : branch_of f n ≡ branch_of f number = side_is b f ∙ ap (λ z. side z f) (q ∙ sym p) ∙ sym (side_is (number % 2 == 0) f) in
          let w = h (n / 2) u (ap (λ j. leaf_below fs l j (n / 2)) (sym there) ∙ g) in
          let to : side b (turned c f changed) ≡ changed = ap (λ z. side z (turned c f changed)) q ∙ turned_on c f changed in (
            w.0,
            on ∙ ap (λ j. leaf_below hs l j (n / 2)) to ∙ m l changed (n / 2) w.0 w.1,
            half_leaf number leaf n u w.0 w.2,
          ))
      | inr q ↦ (
          let to : side b (turned c f changed) ≡ branch_of f n = q.1 ∙ sym (side_is b f) in (
            u,
            on ∙ ap (λ j. leaf_below hs l j (n / 2)) to ∙ m l (branch_of f n) (n / 2) u (k l (branch_of f n) (n / 2) u g),
            inr ((λ s. q.0 (ap (λ z. z % 2 == 0) s ∙ p)), refl),
          ))
    ]

pub no_leaf : (fs : List Fork) (l root n u : ℕ) → length fs ≤ root → leaf_below fs (suc l) root n ≡ Some u → ⊥
no_leaf fs l root n u h e =
    let f = fork_of fs l root n u (slice_get fs root) refl e in
    let w = slice_get_within fs root f.0 f.1 in
    omega (arith, w, h)

pub one_up : (h : ℕ) → (h ≡ 0 → ⊥) → suc (h - 1) ≡ h
one_up zero e = absurd (e refl)
one_up (suc h) e = omega arith

pub is_zero : (n : ℕ) → n ≡ 0 → (n == 0) ≡ true
is_zero n e = subst (λ m. (m == 0) ≡ true) (sym e) refl

pub no_zero : (n : ℕ) → (n ≡ 0 → ⊥) → (n == 0) ≡ false
no_zero n h = by (n == 0) refl
  where
    by : (b : Bool) → (n == 0) ≡ b → b ≡ false
    by true e = absurd (h (eqb-true n 0 e))
    by false e = refl

pub ok_both : {A E : Type 0} (P Q : A → Type 0) (X : Type 0) (r : Result A E) →
    IfOk r P →
    OnOk r X →
    ((x : A) → P x → X → Q x) →
    IfOk r Q
ok_both P Q X (Ok x) a b f = f x a b
ok_both P Q X (Err e) a b f = tt
