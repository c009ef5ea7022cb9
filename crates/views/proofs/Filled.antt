-- Rows and lists of values are filled, one member after the other.
use Rattle.std.proofs.Common.{arith, ◌≡◌, ◌⊎◌, inl, inr, ℕ, zero, suc, ◌+◌, ◌<◌, Bool, true, false, cond, eq-eqb, eqb-true, List, [], ◌∷◌, ◌++◌, length, map, get_or, refl, sym, ap, subst, ◌∙◌, length-append}
use Rattle.std.specs.Prelude.{◌==◌, slice_set, Option, Some, None, is_some, option_map}
use Rattle.std.specs.List.{AllByRecursion}
use Rattle.std.proofs.lemmas.List.{length-set}
use Rattle.asn_base.specs.Abstract.{AbstractValue, Row, end, present, row_of_list}
use Rattle.views.specs.Tree.{ViewTree, ViewMembers, no_member, member, component_value, placed, value_of}
use Rattle.views.specs.Rows.{AreAbsent, or_else, IsPut}

-- ---- elements

-- elements before a row
abbrev pub onto : List AbstractValue → Row → Row
onto [] r = r
onto (v ∷ vs) r = present v (onto vs r)

pub onto_more : (vs : List AbstractValue) (v : AbstractValue) (r : Row) → onto (vs ++ v ∷ []) r ≡ onto vs (present v r)
onto_more [] v r = refl
onto_more (x ∷ vs) v r = ap (present x) (onto_more vs v r)

pub onto_end : (vs : List AbstractValue) → onto vs end ≡ row_of_list vs
onto_end [] = refl
onto_end (x ∷ vs) = ap (present x) (onto_end vs)

-- ---- components

pub is_placed : {A : Type 0} (n : ℕ) (f : ℕ → Option A) (os : List (Option A)) → length os ≡ n → ((i : ℕ) → i < n → get_or os i None ≡ f i) → os ≡ placed n f
is_placed zero f [] e h = refl
is_placed zero f (o ∷ os) e h = absurd (omega arith)
is_placed (suc n) f [] e h = absurd (omega arith)
is_placed (suc n) f (o ∷ os) e h =
    ap (λ q. q ∷ os) (h 0 (omega arith))
    ∙ ap (λ q. f 0 ∷ q) (is_placed n (λ i. f (i + 1)) os (omega arith) (λ i l. (h (suc i) (omega arith) ∙ ap f (let e : suc i ≡ i + 1 = omega arith in e))))

pub all_absent : {A : Type 0} (os : List (Option A)) (i : ℕ) → AllByRecursion (λ o. o ≡ None) os → get_or os i None ≡ None
all_absent [] i a = refl
all_absent (o ∷ os) zero a = a.0
all_absent (o ∷ os) (suc i) a = all_absent os i a.1

pub or_none : {A : Type 0} (o : Option A) → or_else o None ≡ o
or_none None = refl
or_none (Some v) = refl

set_here : {A : Type 0} (os : List A) (k : ℕ) (x d : A) → k < length os → get_or (slice_set os k x) k d ≡ x
set_here [] k x d h = absurd (omega arith)
set_here (o ∷ os) zero x d h = refl
set_here (o ∷ os) (suc k) x d h = set_here os k x d (omega arith)

set_there : {A : Type 0} (os : List A) (k i : ℕ) (x d : A) → (k ≡ i → ⊥) → get_or (slice_set os k x) i d ≡ get_or os i d
set_there [] k i x d h = refl
set_there (o ∷ os) zero zero x d h = absurd (h refl)
set_there (o ∷ os) zero (suc i) x d h = refl
set_there (o ∷ os) (suc k) zero x d h = refl
set_there (o ∷ os) (suc k) (suc i) x d h = set_there os k i x d (λ e. h (ap suc e))

by_bool : (b : Bool) → (b ≡ true) ⊎ (b ≡ false)
by_bool true = inl refl
by_bool false = inr refl

-- v is put at an empty place
pub put_there : (os : List (Option AbstractValue)) (k : ℕ) (v : AbstractValue) → k < length os → get_or os k None ≡ None → IsPut os k v (slice_set os k (Some v))
put_there os k v h none = record {
  as_many = length-set os k (Some v);
  each = λ i l r. elim (by_bool (k == i)) [
    | inl e ↦
        (let same = eqb-true k i e in
        ap (λ q. or_else q (cond (k == i) (Some v) r)) (subst (λ q. get_or os q None ≡ None) same none)
        ∙ ap (λ q. cond q (Some v) r) e
        ∙ ap (λ q. or_else q r) (sym (subst (λ q. get_or (slice_set os k (Some v)) q None ≡ Some v) same (set_here os k (Some v) None h))))
    | inr e ↦
        (ap (λ q. or_else (get_or os i None) (cond q (Some v) r)) e
        ∙ ap (λ q. or_else q r) (sym (set_there os k i (Some v) None (λ same. true_false (sym (eq-eqb k i same) ∙ e)))))
  ];
}
  where
    true_false : true ≡ false → ⊥
    true_false e = cc

-- nothing is put if there is no such place, or if the place isn't empty
pub put_nowhere : (os : List (Option AbstractValue)) (k : ℕ) (v : AbstractValue)
    → ((i : ℕ) → k ≡ i → i < length os → (u : AbstractValue) × (get_or os k None ≡ Some u))
    → IsPut os k v os
put_nowhere os k v some = record {
  as_many = refl;
  each = λ i l r. elim (by_bool (k == i)) [
    | inl e ↦
        (let same = eqb-true k i e in
        let u = some i same l in
        let there = subst (λ q. get_or os q None ≡ Some u.0) same u.1 in
        ap (λ q. or_else q (cond (k == i) (Some v) r)) there ∙ ap (λ q. or_else q r) (sym there))
    | inr e ↦ ap (λ q. or_else (get_or os i None) (cond q (Some v) r)) e
  ];
}

-- n places are filled so far, before the members that are left
pub record AreFilled (n : ℕ) (all left : ViewMembers) (os : List (Option AbstractValue)) : Type 0 where
  pub as_many : length os ≡ n
  pub each : (i : ℕ) → i < n → component_value all i ≡ or_else (get_or os i None) (component_value left i)

pub filled_none : (n : ℕ) (ms : ViewMembers) (os : List (Option AbstractValue)) → length os ≡ n → ((i : ℕ) → get_or os i None ≡ None) → AreFilled n ms ms os
filled_none n ms os e h = record { as_many = e; each = λ i l. ap (λ q. or_else q (component_value ms i)) (sym (h i)) }

pub filled_more : (n : ℕ) (all left rest : ViewMembers) (os ps : List (Option AbstractValue)) (k : ℕ) (t : ViewTree) (v : AbstractValue)
    → AreFilled n all left os
    → left ≡ member k t rest
    → v ≡ value_of t
    → IsPut os k v ps
    → AreFilled n all rest ps
filled_more n all left rest os ps k t v f e w p = record {
  as_many = p.as_many ∙ f.as_many;
  each = λ i l.
      f.each i l
      ∙ ap (λ q. or_else (get_or os i None) (component_value q i)) e
      ∙ ap (λ q. or_else (get_or os i None) (cond (k == i) (Some q) (component_value rest i))) (sym w)
      ∙ p.each i (subst (λ q. i < q) (sym f.as_many) l) (component_value rest i);
}

pub filled_all : (n : ℕ) (all left : ViewMembers) (os : List (Option AbstractValue)) → AreFilled n all left os → left ≡ no_member → os ≡ placed n (λ i. component_value all i)
filled_all n all left os f e =
    is_placed n (λ i. component_value all i) os f.as_many
    (λ i l. sym (f.each i l ∙ ap (λ q. or_else (get_or os i None) (component_value q i)) e ∙ or_none (get_or os i None)))

pub none_mapped : {A B : Type 0} (f : A → B) (os : List (Option A)) (i : ℕ) → AllByRecursion (λ o. o ≡ None) os → get_or (map (option_map f) os) i None ≡ None
none_mapped f [] i a = refl
none_mapped f (o ∷ os) zero a = ap (option_map f) a.0
none_mapped f (o ∷ os) (suc i) a = none_mapped f os i a.1

pub length_same : {A B : Type 0} (f : A → B) (xs : List A) → length (map f xs) ≡ length xs
length_same f [] = refl
length_same f (x ∷ xs) = ap suc (length_same f xs)

pub get_mapped : {A B : Type 0} (f : A → B) (os : List (Option A)) (i : ℕ) (o : Option A) → i < length os → o ≡ get_or os i o → get_or (map (option_map f) os) i None ≡ option_map f o
get_mapped f [] i o h e = absurd (omega arith)
get_mapped f (p ∷ os) zero o h e = ap (option_map f) (sym e)
get_mapped f (p ∷ os) (suc i) o h e = get_mapped f os i o (omega arith) e

-- one more absent component
pub absent_more : {A : Type 0} (n : ℕ) (os ps : List (Option A)) → AreAbsent n os → ps ≡ os ++ None ∷ [] → AreAbsent (n + 1) ps
absent_more n os ps a e =
    subst (λ q. AreAbsent (n + 1) q) (sym e)
    ((let l = length-append os (None ∷ []) in let m = a.0 in omega arith), all_more os a.1)
  where
    all_more : {A : Type 0} (xs : List (Option A)) → AllByRecursion (λ o. o ≡ None) xs → AllByRecursion (λ o. o ≡ None) (xs ++ None ∷ [])
    all_more [] a = (refl, tt)
    all_more (x ∷ xs) a = (a.0, all_more xs a.1)

pub nothing_in : {A B : Type 0} (f : A → B) (o : Option A) → is_some o ≡ false → option_map f o ≡ None
nothing_in f None e = refl
nothing_in f (Some v) e = absurd (cc)

pub something_in : {A B : Type 0} (f : A → B) (o : Option A) → is_some o ≡ true → (v : B) × (option_map f o ≡ Some v)
something_in f None e = absurd (cc)
something_in f (Some v) e = (f v, refl)
