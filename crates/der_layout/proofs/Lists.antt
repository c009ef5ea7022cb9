-- Parts of lists, and the last of a list.
use Rattle.std.proofs.Common.{◌≡◌, ℕ, zero, suc, ◌+◌, ◌<◌, ◌⊎◌, inl, inr, List, [], ◌∷◌, ◌++◌, length, get_or, set, take, drop, refl, sym, ap, ◌∙◌, arith, append_assoc, length-append}
use Rattle.std.specs.Prelude.{if◌then◌else◌}
use Rattle.std.specs.Int.Digits.{digits_of}
use Rattle.std.proofs.lemmas.Bool.{lt-ltb}
use Rattle.encodings.specs.Fewest.{shortest_size}
use Rattle.der_layout.specs.declared.table.Member.{Member}
use Rattle.der_layout.specs.Tables.{after, with_size, span}

-- the last of two equal lists
pub last_same : {A : Type 0} (xs ys : List A) (x y : A) → xs ++ x ∷ [] ≡ ys ++ y ∷ [] → (xs ≡ ys) × (x ≡ y)
last_same [] [] x y e = (refl, cc)
last_same [] (b ∷ ys) x y e = absurd (let f : length (x ∷ []) ≡ length (b ∷ (ys ++ y ∷ [])) = ap length e in let g = length-append ys (y ∷ []) in omega arith)
last_same (a ∷ xs) [] x y e = absurd (let f : length (a ∷ (xs ++ x ∷ [])) ≡ length (y ∷ []) = ap length e in let g = length-append xs (x ∷ []) in omega arith)
last_same (a ∷ xs) (b ∷ ys) x y e =
    let h : a ≡ b = cc in
    let t : xs ++ x ∷ [] ≡ ys ++ y ∷ [] = cc in
    let p = last_same xs ys x y t in
    (ap (λ q. q ∷ xs) h ∙ ap (λ q. b ∷ q) p.0, p.1)

pub no_last : {A : Type 0} (xs : List A) (x : A) → xs ++ x ∷ [] ≡ [] → ⊥
no_last [] x e = cc
no_last (y ∷ xs) x e = cc

pub set_last : {A : Type 0} (xs ys : List A) (x y : A) → set ((xs ++ x ∷ []) ++ ys) (length xs) y ≡ xs ++ (y ∷ ys)
set_last [] ys x y = refl
set_last (z ∷ xs) ys x y = ap (λ k. z ∷ k) (set_last xs ys x y)

pub set_end : {A : Type 0} (xs : List A) (x y : A) → set (xs ++ x ∷ []) (length xs) y ≡ xs ++ y ∷ []
set_end [] x y = refl
set_end (z ∷ xs) x y = ap (λ k. z ∷ k) (set_end xs x y)

-- a list is what comes before its last element, and that element
pub split_last : {A : Type 0} (xs : List A) (n : ℕ) (x : A) → length xs ≡ n + 1 → x ≡ get_or xs n x → xs ≡ take n xs ++ x ∷ []
split_last [] n x h e = absurd (omega (arith, h))
split_last (y ∷ []) zero x h e = ap (λ q. q ∷ []) (sym e)
split_last (y ∷ (z ∷ xs)) zero x h e = absurd (omega (arith, h))
split_last (y ∷ xs) (suc n) x h e = ap (λ q. y ∷ q) (split_last xs n x (omega (arith, h)) e)

pub set_at_end : {A : Type 0} (xs : List A) (n : ℕ) (y : A) → length xs ≡ n + 1 → set xs n y ≡ take n xs ++ y ∷ []
set_at_end [] n y h = absurd (omega (arith, h))
set_at_end (x ∷ []) zero y h = refl
set_at_end (x ∷ (z ∷ xs)) zero y h = absurd (omega (arith, h))
set_at_end (x ∷ xs) (suc n) y h = ap (λ q. x ∷ q) (set_at_end xs n y (omega (arith, h)))

pub only_second : {P B : Type 0} → (P → ⊥) → P ⊎ B → B
only_second n (inl p) = absurd (n p)
only_second n (inr b) = b

-- ---- fronts

pub take_front : {A : Type 0} (f x : List A) → take (length f) (f ++ x) ≡ f
take_front [] x = refl
take_front (z ∷ f) x = ap (λ k. z ∷ k) (take_front f x)

pub drop_front : {A : Type 0} (f x : List A) → drop (length f) (f ++ x) ≡ x
drop_front [] x = refl
drop_front (z ∷ f) x = drop_front f x

-- ---- the octet that is held open

after_front : (f x : List ℕ) (o : ℕ) → after (length f) (f ++ o ∷ x) ≡ x
after_front [] x o = refl
after_front (z ∷ f) x o = after_front f x o

pub held_open : (f x : List ℕ) → (f ++ 0 ∷ []) ++ x ≡ f ++ 0 ∷ x
held_open f x = append_assoc f (0 ∷ []) x

pub after_held : (f x : List ℕ) → after (length f) ((f ++ 0 ∷ []) ++ x) ≡ x
after_held f x = ap (after (length f)) (held_open f x) ∙ after_front f x 0

pub sized : (f x : List ℕ) → with_size (length f) ((f ++ 0 ∷ []) ++ x) ≡ f ++ (shortest_size (length x) ++ x)
sized f x =
    ap (with_size (length f)) (held_open f x)
    ∙ ap (λ q. take (length f) (f ++ 0 ∷ x) ++ (shortest_size (length q) ++ q)) (after_front f x 0)
    ∙ ap (λ q. q ++ (shortest_size (length x) ++ x)) (take_front f (0 ∷ x))

put_at : (xs : List ℕ) (i x : ℕ) → i < length xs → set xs i x ≡ take i xs ++ (x ∷ after i xs)
put_at [] i x h = absurd (omega (arith, h))
put_at (y ∷ xs) zero x h = refl
put_at (y ∷ xs) (suc i) x h = ap (λ q. y ∷ q) (put_at xs i x (omega (arith, h)))

left_after : (xs : List ℕ) (i x : ℕ) → x + i + 1 ≡ length xs → length (after i xs) ≡ x
left_after [] i x h = absurd (omega (arith, h))
left_after (y ∷ xs) zero x h = omega (arith, h)
left_after (y ∷ xs) (suc i) x h = left_after xs i x (omega (arith, h))

one_octet : (x : ℕ) → x < 128 → x ∷ [] ≡ shortest_size x
one_octet x h = sym (ap (λ b. if b then x ∷ [] else (128 + length (digits_of 256 x)) ∷ digits_of 256 x) (lt-ltb x 128 h))

-- a length below 128 takes the place of the octet
pub short_size : (all new : List ℕ) (place n : ℕ) → new ≡ set all place n → n + place + 1 ≡ length all → n < 128 → new ≡ with_size place all
short_size all new place n e l h =
    e ∙ put_at all place n (omega (arith, l))
    ∙ ap (λ q. take place all ++ (q ++ after place all)) (one_octet n h ∙ ap shortest_size (sym (left_after all place n l)))

pub held_within : (f x : List ℕ) → length f < length ((f ++ 0 ∷ []) ++ x)
held_within f x =
    let a : length ((f ++ 0 ∷ []) ++ x) ≡ length f + suc (length x) = ap length (held_open f x) ∙ length-append f (0 ∷ x) in
    omega (arith, a)

-- ---- spans

pub span_between : (m : Member) (f x y : List ℕ) → m.start ≡ length f → m.end ≡ length f + length x → span (f ++ (x ++ y)) m ≡ x
span_between m f x y s e =
    let all : f ++ (x ++ y) ≡ (f ++ x) ++ y = sym (append_assoc f x y) in
    let n : m.end ≡ length (f ++ x) = e ∙ sym (length-append f x) in
    ap (λ q. drop m.start (take m.end q)) all
    ∙ ap (λ q. drop m.start (take q ((f ++ x) ++ y))) n
    ∙ ap (drop m.start) (take_front (f ++ x) y)
    ∙ ap (λ q. drop q (f ++ x)) s
    ∙ drop_front f x
