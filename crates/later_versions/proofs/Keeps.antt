-- What is kept of rows, one component or element after the other.
use Rattle.std.proofs.Common.{arith, ◌≡◌, ℕ, zero, suc, ◌+◌, ◌<◌, ◌≤◌, List, [], ◌∷◌, ◌++◌, length, map, drop, get_or, refl, sym, ap, subst, ◌∙◌, append_assoc}
use Rattle.std.specs.Prelude.{slice_get, Some, None, Option, option_map}
use Rattle.std.proofs.lemmas.List.{drop_all, length-map, map-append}
use Rattle.asn_base.specs.Abstract.{AbstractValue, absent, present, row_of_list, row_of_options}
use Rattle.asn_base.specs.Types.{Resolved}
use Rattle.later_versions.specs.Projected.{projected, projected_elements, projected_row, left_out, left_out_of_elements, left_out_of_row}
use Rattle.later_versions.proofs.Fronts.{drop_at}
use Rattle.later_versions.specs.proving.Keeping.{projected_one, left_out_of_one}

-- ---- the same over lists

abbrev kept_list : List Resolved → List ℕ → List (Option AbstractValue) → List (Option AbstractValue)
kept_list s us [] = []
kept_list s [] (o ∷ os) = []
kept_list s (u ∷ us) (o ∷ os) = projected_one s u o ∷ kept_list s us os

abbrev left_list : List Resolved → List ℕ → List (Option AbstractValue) → ℕ
left_list s us [] = 0
left_list s [] (None ∷ os) = left_list s [] os
left_list s [] (Some v ∷ os) = suc (left_list s [] os)
left_list s (u ∷ us) (o ∷ os) = left_out_of_one s u o + left_list s us os

row_kept : (s : List Resolved) (us : List ℕ) (os : List (Option AbstractValue))
    → projected_row s us (row_of_options os) ≡ row_of_options (kept_list s us os)
row_kept s [] [] = refl
row_kept s (u ∷ us) [] = refl
row_kept s [] (None ∷ os) = refl
row_kept s [] (Some v ∷ os) = refl
row_kept s (u ∷ us) (None ∷ os) = ap absent (row_kept s us os)
row_kept s (u ∷ us) (Some v ∷ os) = ap (present (projected s u v)) (row_kept s us os)

row_left : (s : List Resolved) (us : List ℕ) (os : List (Option AbstractValue))
    → left_out_of_row s us (row_of_options os) ≡ left_list s us os
row_left s [] [] = refl
row_left s (u ∷ us) [] = refl
row_left s [] (None ∷ os) = row_left s [] os
row_left s [] (Some v ∷ os) = ap suc (row_left s [] os)
row_left s (u ∷ us) (None ∷ os) = let e = row_left s us os in omega (arith, e)
row_left s (u ∷ us) (Some v ∷ os) = ap (λ n. left_out s u v + n) (row_left s us os)

-- ---- lists from a place on

drop_here : {A : Type 0} (xs : List A) (i : ℕ) (x : A) → slice_get xs i ≡ Some x → drop i xs ≡ x ∷ drop (i + 1) xs
drop_here [] i x e = absurd cc
drop_here (y ∷ xs) zero x e = let s : y ≡ x = cc in ap (λ q. q ∷ xs) s
drop_here (y ∷ xs) (suc i) x e =
    drop_here xs i x e ∙ ap (λ k. x ∷ drop k (y ∷ xs)) (let n : suc (i + 1) ≡ suc i + 1 = omega arith in n)

none_past : {A : Type 0} (xs : List A) (i : ℕ) → slice_get xs i ≡ None → length xs ≤ i
none_past [] i e = omega arith
none_past (x ∷ xs) zero e = absurd cc
none_past (x ∷ xs) (suc i) e = let h = none_past xs i e in omega (arith, h)

drop_none : {A : Type 0} (xs : List A) (i : ℕ) → slice_get xs i ≡ None → (drop i xs ≡ []) × (drop (i + 1) xs ≡ [])
drop_none xs i e = let l = none_past xs i e in (drop_all i xs l, drop_all (i + 1) xs (omega (arith, l)))

drop_mapped : {A B : Type 0} (f : A → B) (xs : List A) (i : ℕ) (d : A)
    → i < length xs
    → d ≡ get_or xs i d
    → drop i (map f xs) ≡ f d ∷ drop (i + 1) (map f xs)
drop_mapped f xs i d h e = drop_at f xs i d h ∙ ap (λ q. f q ∷ drop (i + 1) (map f xs)) (sym e)

-- ---- components

-- what was kept of the components so far completes the whole, and none was left out
pub record KeptSoFar {V : Type 0} (f : Option V → Option AbstractValue) (s : List Resolved) (us : List ℕ) (vs all : List (Option V)) (i : ℕ) : Type 0 where
  pub projected : map f all ++ kept_list s (drop i us) (drop i (map f vs)) ≡ kept_list s us (map f vs)
  pub left : left_list s (drop i us) (drop i (map f vs)) ≡ left_list s us (map f vs)

pub kept_none : {V : Type 0} (f : Option V → Option AbstractValue) (s : List Resolved) (us : List ℕ) (vs : List (Option V))
    → KeptSoFar f s us vs [] 0
kept_none f s us vs = record { projected = refl; left = refl }

list_here : (s : List Resolved) (us : List ℕ) (os : List (Option AbstractValue)) (i u : ℕ) (o : Option AbstractValue)
    → slice_get us i ≡ Some u
    → drop i os ≡ o ∷ drop (i + 1) os
    → (kept_list s (drop i us) (drop i os) ≡ projected_one s u o ∷ kept_list s (drop (i + 1) us) (drop (i + 1) os))
    × (left_list s (drop i us) (drop i os) ≡ left_out_of_one s u o + left_list s (drop (i + 1) us) (drop (i + 1) os))
list_here s us os i u o e d = let h = drop_here us i u e in (
  ap (λ q. kept_list s q (drop i os)) h ∙ ap (kept_list s (u ∷ drop (i + 1) us)) d,
  ap (λ q. left_list s q (drop i os)) h ∙ ap (left_list s (u ∷ drop (i + 1) us)) d,
)

pub kept_next : {V : Type 0} (f : Option V → Option AbstractValue) (s : List Resolved) (us : List ℕ) (vs all new : List (Option V)) (i u : ℕ) (v one : Option V)
    → i < length vs
    → v ≡ get_or vs i v
    → slice_get us i ≡ Some u
    → left_out_of_one s u (f v) ≡ 0
    → f one ≡ projected_one s u (f v)
    → new ≡ all ++ one ∷ []
    → KeptSoFar f s us vs all i
    → KeptSoFar f s us vs new (i + 1)
kept_next f s us vs all new i u v one l e t z k n so =
    let h = list_here s us (map f vs) i u (f v) t (drop_mapped f vs i v l e) in
    let rest = kept_list s (drop (i + 1) us) (drop (i + 1) (map f vs)) in
    record {
      projected =
          ap (λ q. map f q ++ rest) n
          ∙ ap (λ q. q ++ rest) (map-append f all (one ∷ []))
          ∙ append_assoc (map f all) (f one ∷ []) rest
          ∙ ap (λ q. map f all ++ q ∷ rest) k
          ∙ ap (λ q. map f all ++ q) (sym h.0)
          ∙ so.projected;
      left = (let a = h.1 in let b = so.left in omega (arith, a, b, z));
    }

pub kept_past : {V : Type 0} (f : Option V → Option AbstractValue) (s : List Resolved) (us : List ℕ) (vs all : List (Option V)) (i : ℕ) (v : Option V)
    → i < length vs
    → v ≡ get_or vs i v
    → slice_get us i ≡ None
    → f v ≡ None
    → KeptSoFar f s us vs all i
    → KeptSoFar f s us vs all (i + 1)
kept_past f s us vs all i v l e t z so =
    let d = drop_mapped f vs i v l e ∙ ap (λ q. q ∷ drop (i + 1) (map f vs)) z in
    let n = drop_none us i t in
    let os = drop (i + 1) (map f vs) in
    record {
      projected =
          ap (λ q. map f all ++ q) (
          ap (λ q. kept_list s q os) n.1 ∙ nothing_kept s os
          ∙ sym (ap (λ q. kept_list s q (drop i (map f vs))) n.0 ∙ ap (kept_list s []) d)
          )
          ∙ so.projected;
      left =
          ap (λ q. left_list s q os) n.1
          ∙ sym (ap (λ q. left_list s q (drop i (map f vs))) n.0 ∙ ap (left_list s []) d)
          ∙ so.left;
    }
  where
    nothing_kept : (s : List Resolved) (os : List (Option AbstractValue)) → kept_list s [] os ≡ []
    nothing_kept s [] = refl
    nothing_kept s (o ∷ os) = refl

pub kept_whole : {V : Type 0} (f : Option V → Option AbstractValue) (s : List Resolved) (us : List ℕ) (vs all : List (Option V)) (i : ℕ)
    → length vs ≤ i
    → KeptSoFar f s us vs all i
    → (left_out_of_row s us (row_of_options (map f vs)) ≡ 0)
    × (row_of_options (map f all) ≡ projected_row s us (row_of_options (map f vs)))
kept_whole f s us vs all i l so =
    let m = length-map vs f in
    let d : drop i (map f vs) ≡ [] = drop_all i (map f vs) (omega (arith, m, l)) in (
      row_left s us (map f vs) ∙ sym so.left ∙ ap (left_list s (drop i us)) d ∙ no_left s (drop i us),
      ap row_of_options (sym (append-none (map f all)) ∙ ap (λ q. map f all ++ q) (sym (ap (kept_list s (drop i us)) d ∙ no_kept s (drop i us))) ∙ so.projected)
          ∙ sym (row_kept s us (map f vs)),
    )
  where
    no_left : (s : List Resolved) (us : List ℕ) → left_list s us [] ≡ 0
    no_left s [] = refl
    no_left s (u ∷ us) = refl

    no_kept : (s : List Resolved) (us : List ℕ) → kept_list s us [] ≡ []
    no_kept s [] = refl
    no_kept s (u ∷ us) = refl

    append-none : {A : Type 0} (xs : List A) → xs ++ [] ≡ xs
    append-none [] = refl
    append-none (x ∷ xs) = ap (λ q. x ∷ q) (append-none xs)

pub left_here : {V : Type 0} (f : Option V → Option AbstractValue) (s : List Resolved) (us : List ℕ) (vs all : List (Option V)) (i u : ℕ) (v : Option V)
    → i < length vs
    → v ≡ get_or vs i v
    → slice_get us i ≡ Some u
    → 0 < left_out_of_one s u (f v)
    → KeptSoFar f s us vs all i
    → 0 < left_out_of_row s us (row_of_options (map f vs))
left_here f s us vs all i u v l e t z so =
    let h = list_here s us (map f vs) i u (f v) t (drop_mapped f vs i v l e) in
    let a = h.1 in let b = so.left in let c = row_left s us (map f vs) in omega (arith, a, b, c, z)

pub left_after : {V : Type 0} (f : Option V → Option AbstractValue) (s : List Resolved) (us : List ℕ) (vs all : List (Option V)) (i : ℕ) (v : Option V) (w : AbstractValue)
    → i < length vs
    → v ≡ get_or vs i v
    → slice_get us i ≡ None
    → f v ≡ Some w
    → KeptSoFar f s us vs all i
    → 0 < left_out_of_row s us (row_of_options (map f vs))
left_after f s us vs all i v w l e t z so =
    let d = drop_mapped f vs i v l e ∙ ap (λ q. q ∷ drop (i + 1) (map f vs)) z in
    let n = drop_none us i t in
    let a : left_list s (drop i us) (drop i (map f vs)) ≡ suc (left_list s [] (drop (i + 1) (map f vs))) =
    ap (λ q. left_list s q (drop i (map f vs))) n.0 ∙ ap (left_list s []) d in
    let b = so.left in let c = row_left s us (map f vs) in omega (arith, a, b, c)

-- one component more, if it is known whether it is present
pub kept_present : {V : Type 0} (f : V → AbstractValue) (s : List Resolved) (us : List ℕ) (vs all new : List (Option V)) (i u : ℕ) (o : Option V) (v one : V)
    → i < length vs
    → o ≡ get_or vs i o
    → o ≡ Some v
    → slice_get us i ≡ Some u
    → left_out s u (f v) ≡ 0
    → f one ≡ projected s u (f v)
    → new ≡ all ++ Some one ∷ []
    → KeptSoFar (option_map f) s us vs all i
    → KeptSoFar (option_map f) s us vs new (i + 1)
kept_present f s us vs all new i u o v one l e q t z k n so =
    kept_next (option_map f) s us vs all new i u o (Some one) l e t
    (ap (λ x. left_out_of_one s u (option_map f x)) q ∙ z)
    (ap Some k ∙ sym (ap (λ x. projected_one s u (option_map f x)) q)) n so

pub kept_absent : {V : Type 0} (f : V → AbstractValue) (s : List Resolved) (us : List ℕ) (vs all new : List (Option V)) (i : ℕ) (o : Option V)
    → i < length vs
    → o ≡ get_or vs i o
    → o ≡ None
    → ((u : ℕ) → slice_get us i ≡ Some u → new ≡ all ++ None ∷ [])
    → (slice_get us i ≡ None → new ≡ all)
    → KeptSoFar (option_map f) s us vs all i
    → KeptSoFar (option_map f) s us vs new (i + 1)
kept_absent f s us vs all new i o l e q n m so = of_option (slice_get us i) refl
  where
    of_option : (p : Option ℕ) → slice_get us i ≡ p → KeptSoFar (option_map f) s us vs new (i + 1)
    of_option None r =
        subst (λ x. KeptSoFar (option_map f) s us vs x (i + 1)) (sym (m r))
        (kept_past (option_map f) s us vs all i o l e r (ap (option_map f) q) so)
    of_option (Some u) r =
        kept_next (option_map f) s us vs all new i u o None l e r
        (ap (λ x. left_out_of_one s u (option_map f x)) q)
        (sym (ap (λ x. projected_one s u (option_map f x)) q)) (n u r) so

pub left_present : {V : Type 0} (f : V → AbstractValue) (s : List Resolved) (us : List ℕ) (vs all : List (Option V)) (i u : ℕ) (o : Option V) (v : V)
    → i < length vs
    → o ≡ get_or vs i o
    → o ≡ Some v
    → slice_get us i ≡ Some u
    → 0 < left_out s u (f v)
    → KeptSoFar (option_map f) s us vs all i
    → 0 < left_out_of_row s us (row_of_options (map (option_map f) vs))
left_present f s us vs all i u o v l e q t z so =
    left_here (option_map f) s us vs all i u o l e t
    (subst (λ x. 0 < left_out_of_one s u (option_map f x)) (sym q) z) so

-- ---- elements

pub record ElementsSoFar {V : Type 0} (f : V → AbstractValue) (s : List Resolved) (u : ℕ) (vs all : List V) (i : ℕ) : Type 0 where
  pub projected : map f all ++ map (projected s u) (drop i (map f vs)) ≡ map (projected s u) (map f vs)
  pub left : left_out_of_elements s u (row_of_list (drop i (map f vs))) ≡ left_out_of_elements s u (row_of_list (map f vs))

list_kept : (s : List Resolved) (u : ℕ) (vs : List AbstractValue)
    → projected_elements s u (row_of_list vs) ≡ row_of_list (map (projected s u) vs)
list_kept s u [] = refl
list_kept s u (v ∷ vs) = ap (present (projected s u v)) (list_kept s u vs)

pub elements_none : {V : Type 0} (f : V → AbstractValue) (s : List Resolved) (u : ℕ) (vs : List V)
    → ElementsSoFar f s u vs [] 0
elements_none f s u vs = record { projected = refl; left = refl }

pub elements_next : {V : Type 0} (f : V → AbstractValue) (s : List Resolved) (u : ℕ) (vs all new : List V) (i : ℕ) (v one : V)
    → i < length vs
    → v ≡ get_or vs i v
    → left_out s u (f v) ≡ 0
    → f one ≡ projected s u (f v)
    → new ≡ all ++ one ∷ []
    → ElementsSoFar f s u vs all i
    → ElementsSoFar f s u vs new (i + 1)
elements_next f s u vs all new i v one l e z k n so =
    let d = drop_mapped f vs i v l e in
    let rest = map (projected s u) (drop (i + 1) (map f vs)) in
    record {
      projected =
          ap (λ q. map f q ++ rest) n
          ∙ ap (λ q. q ++ rest) (map-append f all (one ∷ []))
          ∙ append_assoc (map f all) (f one ∷ []) rest
          ∙ ap (λ q. map f all ++ q ∷ rest) k
          ∙ ap (λ q. map f all ++ q) (sym (ap (map (projected s u)) d))
          ∙ so.projected;
      left = (
          let a : left_out_of_elements s u (row_of_list (drop i (map f vs))) ≡ left_out s u (f v) + left_out_of_elements s u (row_of_list (drop (i + 1) (map f vs))) =
          ap (λ q. left_out_of_elements s u (row_of_list q)) d in
          let b = so.left in omega (arith, a, b, z)
          );
    }

pub elements_whole : {V : Type 0} (f : V → AbstractValue) (s : List Resolved) (u : ℕ) (vs all : List V) (i : ℕ)
    → length vs ≤ i
    → ElementsSoFar f s u vs all i
    → (left_out_of_elements s u (row_of_list (map f vs)) ≡ 0)
    × (row_of_list (map f all) ≡ projected_elements s u (row_of_list (map f vs)))
elements_whole f s u vs all i l so =
    let m = length-map vs f in
    let d : drop i (map f vs) ≡ [] = drop_all i (map f vs) (omega (arith, m, l)) in (
      sym so.left ∙ ap (λ q. left_out_of_elements s u (row_of_list q)) d,
      ap row_of_list (sym (append-none (map f all)) ∙ ap (λ q. map f all ++ q) (sym (ap (map (projected s u)) d)) ∙ so.projected)
          ∙ sym (list_kept s u (map f vs)),
    )
  where
    append-none : {A : Type 0} (xs : List A) → xs ++ [] ≡ xs
    append-none [] = refl
    append-none (x ∷ xs) = ap (λ q. x ∷ q) (append-none xs)

pub elements_left : {V : Type 0} (f : V → AbstractValue) (s : List Resolved) (u : ℕ) (vs all : List V) (i : ℕ) (v : V)
    → i < length vs
    → v ≡ get_or vs i v
    → 0 < left_out s u (f v)
    → ElementsSoFar f s u vs all i
    → 0 < left_out_of_elements s u (row_of_list (map f vs))
elements_left f s u vs all i v l e z so =
    let a : left_out_of_elements s u (row_of_list (drop i (map f vs))) ≡ left_out s u (f v) + left_out_of_elements s u (row_of_list (drop (i + 1) (map f vs))) =
    ap (λ q. left_out_of_elements s u (row_of_list q)) (drop_mapped f vs i v l e) in
    let b = so.left in omega (arith, a, b, z)
