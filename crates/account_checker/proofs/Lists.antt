-- Lists from a place on, and two lists, one after the other.
use Rattle.std.proofs.Common.{arith, ◌≡◌, ℕ, zero, suc, ◌+◌, ◌-◌, ◌<◌, ◌≤◌, List, [], ◌∷◌, ◌++◌, length, map, drop, get_or, refl, sym, ap, subst, ◌∙◌}
use Rattle.std.specs.Prelude.{◌↔◌, Some, None, slice_get}

pub of_first : {A B : Type 0} (f : A → B) (xs : List A) (ys : List B) (i : ℕ) (d : A) → i < length xs → slice_get (map f xs ++ ys) i ≡ Some (f (get_or xs i d))
of_first f [] ys i d l = absurd (omega arith)
of_first f (x ∷ xs) ys zero d l = refl
of_first f (x ∷ xs) ys (suc i) d l = of_first f xs ys i d (omega arith)

found_at : {A B : Type 0} (f : A → B) (xs : List A) (i : ℕ) (d : A) → i < length xs → slice_get (map f xs) i ≡ Some (f (get_or xs i d))
found_at f [] i d l = absurd (omega arith)
found_at f (x ∷ xs) zero d l = refl
found_at f (x ∷ xs) (suc i) d l = found_at f xs i d (omega arith)

pub of_second : {A B : Type 0} (f : A → B) (xs : List B) (ys : List A) (i j : ℕ) (d : A) → i ≡ length xs + j → j < length ys → slice_get (xs ++ map f ys) i ≡ Some (f (get_or ys j d))
of_second f [] ys i j d e l = ap (slice_get (map f ys)) (let h : i ≡ j = omega arith in h) ∙ found_at f ys j d l
of_second f (x ∷ xs) ys zero j d e l = absurd (omega arith)
of_second f (x ∷ xs) ys (suc i) j d e l = of_second f xs ys i j d (omega arith) l

pub of_none : {B : Type 0} (xs ys : List B) (i : ℕ) → length xs ≤ i → length ys ≤ i - length xs → slice_get (xs ++ ys) i ≡ None
of_none [] [] i l m = refl
of_none [] (y ∷ ys) zero l m = absurd (omega arith)
of_none [] (y ∷ ys) (suc i) l m = of_none [] ys i (omega arith) (omega arith)
of_none (x ∷ xs) ys zero l m = absurd (omega arith)
of_none (x ∷ xs) ys (suc i) l m = of_none xs ys i (omega arith) (omega arith)

pub length_mapped : {A B : Type 0} (f : A → B) (xs : List A) → length (map f xs) ≡ length xs
length_mapped f [] = refl
length_mapped f (x ∷ xs) = ap suc (length_mapped f xs)

pub drop_at : {A B : Type 0} (f : A → B) (xs : List A) (i : ℕ) (d : A) → i < length xs → drop i (map f xs) ≡ f (get_or xs i d) ∷ drop (i + 1) (map f xs)
drop_at f [] i d h = absurd (omega arith)
drop_at f (x ∷ xs) zero d h = refl
drop_at f (x ∷ xs) (suc i) d h =
    let e : suc (i + 1) ≡ suc i + 1 = omega arith in
    drop_at f xs i d (omega arith) ∙ ap (λ k. f (get_or xs i d) ∷ drop k (f x ∷ map f xs)) e

-- the same if the element there is known
pub drop_is : {A B : Type 0} (f : A → B) (xs : List A) (i : ℕ) (d : A) → i < length xs → d ≡ get_or xs i d → drop i (map f xs) ≡ f d ∷ drop (i + 1) (map f xs)
drop_is f xs i d h e = drop_at f xs i d h ∙ ap (λ x. f x ∷ drop (i + 1) (map f xs)) (sym e)

pub drop_here : {A : Type 0} (xs : List A) (i : ℕ) (d : A) → i < length xs → drop i xs ≡ get_or xs i d ∷ drop (i + 1) xs
drop_here [] i d h = absurd (omega arith)
drop_here (x ∷ xs) zero d h = refl
drop_here (x ∷ xs) (suc i) d h =
    let e : suc (i + 1) ≡ suc i + 1 = omega arith in
    drop_here xs i d (omega arith) ∙ ap (λ k. get_or xs i d ∷ drop k (x ∷ xs)) e

pub drop_end : {A B : Type 0} (f : A → B) (xs : List A) (i : ℕ) → length xs ≤ i → drop i (map f xs) ≡ []
drop_end f [] zero h = refl
drop_end f [] (suc i) h = refl
drop_end f (x ∷ xs) zero h = absurd (omega arith)
drop_end f (x ∷ xs) (suc i) h = drop_end f xs i (omega arith)

pub drop_past : {A : Type 0} (xs : List A) (i : ℕ) → length xs ≤ i → drop i xs ≡ []
drop_past [] zero h = refl
drop_past [] (suc i) h = refl
drop_past (x ∷ xs) zero h = absurd (omega arith)
drop_past (x ∷ xs) (suc i) h = drop_past xs i (omega arith)

-- P holds for the whole exactly if it holds for what is left
pub left_at : {B : Type 0} (P : List B → Type 0) (ys : List B) (left : List B) (i : ℕ) → drop i ys ≡ left → P ys ↔ P (drop i ys) → P ys ↔ P left
left_at P ys left i e a = subst (λ q. P ys ↔ P q) e a

pub onward : {P Q R : Type 0} → P ↔ Q → (Q → R) → (R → Q) → P ↔ R
onward a f g = (λ p. f (a.0 p), λ r. a.1 (g r))
