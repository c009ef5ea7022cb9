-- Lists to which something is added at the end.
use Rattle.std.proofs.Common.{arith, ◌≡◌, ℕ, zero, suc, ◌-◌, ◌<◌, ◌≤◌, List, [], ◌∷◌, ◌++◌, length, take, drop, get_or, refl, sym, ap, ◌∙◌, length-append}
use Rattle.std.specs.Prelude.{slice_set}
use Rattle.std.specs.List.{slice_range, AllByRecursion}
use Rattle.std.proofs.Math.Seq.{drop-append_seam}
use Rattle.std.proofs.lemmas.List.{drop-append-le, length-drop, length-take}

pub take_kept : {A : Type 0} (n : ℕ) (xs ys : List A) → n ≤ length xs → take n (xs ++ ys) ≡ take n xs
take_kept zero xs ys h = refl
take_kept (suc n) [] ys h = absurd (omega arith)
take_kept (suc n) (x ∷ xs) ys h = ap (λ q. x ∷ q) (take_kept n xs ys (omega arith))

pub take_all : {A : Type 0} (n : ℕ) (xs : List A) → length xs ≤ n → take n xs ≡ xs
take_all zero [] h = refl
take_all zero (x ∷ xs) h = absurd (omega arith)
take_all (suc n) [] h = refl
take_all (suc n) (x ∷ xs) h = ap (λ q. x ∷ q) (take_all n xs (omega arith))

-- a range within the front stays
pub range_kept : {A : Type 0} (xs ys : List A) (i j : ℕ) → i ≤ j → j ≤ length xs → slice_range (xs ++ ys) i j ≡ slice_range xs i j
range_kept xs ys i j h l =
    ap (take (j - i)) (drop-append-le i xs ys (omega arith))
    ∙ take_kept (j - i) (drop i xs) ys (let e = length-drop i xs in omega arith)

-- what is added
pub range_added : {A : Type 0} (xs ys : List A) (i j : ℕ) → i ≡ length xs → j ≡ length (xs ++ ys) → slice_range (xs ++ ys) i j ≡ ys
range_added xs ys i j e f =
    ap (λ q. take (j - i) (drop q (xs ++ ys))) e
    ∙ ap (take (j - i)) (drop-append_seam xs ys)
    ∙ take_all (j - i) ys (let g = length-append xs ys in omega arith)

-- a range without elements
pub range_empty : {A : Type 0} (xs : List A) (i j : ℕ) → i ≤ j → j ≤ length xs → length (slice_range xs i j) ≡ 0 → i ≡ j
range_empty xs i j h l e =
    let f = length-take (j - i) (drop i xs) in
    let g = length-drop i xs in
    omega (arith, e, f, g, h, l)

pub get_kept : {A : Type 0} (xs ys : List A) (i : ℕ) (d : A) → i < length xs → get_or (xs ++ ys) i d ≡ get_or xs i d
get_kept [] ys i d h = absurd (omega arith)
get_kept (x ∷ xs) ys zero d h = refl
get_kept (x ∷ xs) ys (suc i) d h = get_kept xs ys i d (omega arith)

pub get_added : {A : Type 0} (xs : List A) (y d : A) → get_or (xs ++ y ∷ []) (length xs) d ≡ y
get_added [] y d = refl
get_added (x ∷ xs) y d = get_added xs y d

pub get_seam : {A : Type 0} (xs : List A) (y : A) (ys : List A) (d : A) → get_or (xs ++ y ∷ ys) (length xs) d ≡ y
get_seam [] y ys d = refl
get_seam (x ∷ xs) y ys d = get_seam xs y ys d

pub all_joined : {A : Type 0} (P : A → Type 0) (xs ys : List A) → AllByRecursion P xs → AllByRecursion P ys → AllByRecursion P (xs ++ ys)
all_joined P [] ys a b = b
all_joined P (x ∷ xs) ys a b = (a.0, all_joined P xs ys a.1 b)

pub all_set : {A : Type 0} (P : A → Type 0) (xs : List A) (i : ℕ) (y : A) → AllByRecursion P xs → P y → AllByRecursion P (slice_set xs i y)
all_set P [] i y a b = tt
all_set P (x ∷ xs) zero y a b = (b, a.1)
all_set P (x ∷ xs) (suc i) y a b = (a.0, all_set P xs i y a.1 b)

pub all_at : {A : Type 0} (P : A → Type 0) (xs : List A) (i : ℕ) (d : A) → AllByRecursion P xs → i < length xs → P (get_or xs i d)
all_at P [] i d a h = absurd (omega arith)
all_at P (x ∷ xs) zero d a h = a.0
all_at P (x ∷ xs) (suc i) d a h = all_at P xs i d a.1 (omega arith)

pub all_drop : {A : Type 0} (P : A → Type 0) (xs ys : List A) → AllByRecursion P (xs ++ ys) → AllByRecursion P ys
all_drop P [] ys a = a
all_drop P (x ∷ xs) ys a = all_drop P xs ys a.1

pub all_take : {A : Type 0} (P : A → Type 0) (xs ys : List A) → AllByRecursion P (xs ++ ys) → AllByRecursion P xs
all_take P [] ys a = tt
all_take P (x ∷ xs) ys a = (a.0, all_take P xs ys a.1)

-- the last one and those before it are known by the whole
abbrev last_or : {A : Type 0} → A → List A → A
last_or d [] = d
last_or d (x ∷ xs) = last_or x xs

last_is : {A : Type 0} (d : A) (xs : List A) (x : A) → last_or d (xs ++ x ∷ []) ≡ x
last_is d [] x = refl
last_is d (y ∷ xs) x = last_is y xs x

abbrev front : {A : Type 0} → List A → List A
front [] = []
front (x ∷ []) = []
front (x ∷ (y ∷ xs)) = x ∷ front (y ∷ xs)

front_is : {A : Type 0} (xs : List A) (x : A) → front (xs ++ x ∷ []) ≡ xs
front_is [] x = refl
front_is (y ∷ []) x = refl
front_is (y ∷ (z ∷ xs)) x = ap (λ q. y ∷ q) (front_is (z ∷ xs) x)

pub same_last : {A : Type 0} (xs ys : List A) (x y : A) → xs ++ x ∷ [] ≡ ys ++ y ∷ [] → x ≡ y
same_last xs ys x y e = sym (last_is x xs x) ∙ ap (last_or x) e ∙ last_is x ys y

pub same_front : {A : Type 0} (xs ys : List A) (x y : A) → xs ++ x ∷ [] ≡ ys ++ y ∷ [] → xs ≡ ys
same_front xs ys x y e = sym (front_is xs x) ∙ ap front e ∙ front_is ys y

-- an element that is there is the same whatever stands for one that isn't
pub get_same : {A : Type 0} (xs : List A) (i : ℕ) (d e : A) → i < length xs → get_or xs i d ≡ get_or xs i e
get_same [] i d e h = absurd (omega arith)
get_same (x ∷ xs) zero d e h = refl
get_same (x ∷ xs) (suc i) d e h = get_same xs i d e (omega arith)
