-- Lists that are alike up to a place.
use Rattle.std.proofs.Common.{◌≡◌, ℕ, zero, suc, ◌+◌, ◌<◌, ◌≤◌, List, [], ◌∷◌, refl, sym, ap, ◌∙◌, arith, take, length, map, get_or}

pub equal_more : {A B : Type 0} (f : A → B) (xs ys : List A) (i : ℕ) (x y : A) →
    i < length xs →
    i < length ys →
    x ≡ get_or xs i x →
    y ≡ get_or ys i y →
    f x ≡ f y →
    map f (take i xs) ≡ map f (take i ys) →
    map f (take (i + 1) xs) ≡ map f (take (i + 1) ys)
equal_more f [] ys i x y l m e g h t = absurd (omega (arith, l))
equal_more f (a ∷ xs) [] i x y l m e g h t = absurd (omega (arith, m))
equal_more f (a ∷ xs) (b ∷ ys) zero x y l m e g h t = ap (λ z. z ∷ []) (sym (ap f e) ∙ h ∙ ap f g)
equal_more f (a ∷ xs) (b ∷ ys) (suc i) x y l m e g h t =
    let q : suc i + 1 ≡ suc (i + 1) = omega arith in
    let k = equal_more f xs ys i x y (omega (arith, l)) (omega (arith, m)) e g h (rest t) in
    rw q (join (first t) k)
  where
    first : {A : Type 0} {a b : A} {us vs : List A} → a ∷ us ≡ b ∷ vs → a ≡ b
    first t = cc

    rest : {A : Type 0} {a b : A} {us vs : List A} → a ∷ us ≡ b ∷ vs → us ≡ vs
    rest t = cc

    join : {A : Type 0} {a b : A} {us vs : List A} → a ≡ b → us ≡ vs → a ∷ us ≡ b ∷ vs
    join p q = cc

take_whole : {A : Type 0} (xs : List A) (i : ℕ) → length xs ≤ i → take i xs ≡ xs
take_whole [] zero l = refl
take_whole [] (suc i) l = refl
take_whole (x ∷ xs) zero l = absurd (omega (arith, l))
take_whole (x ∷ xs) (suc i) l = ap (λ zs. x ∷ zs) (take_whole xs i (omega (arith, l)))

pub equal_all : {A B : Type 0} (f : A → B) (xs ys : List A) (i : ℕ) →
    length xs ≤ i →
    length ys ≤ i →
    map f (take i xs) ≡ map f (take i ys) →
    map f xs ≡ map f ys
equal_all f xs ys i l m t = sym (ap (map f) (take_whole xs i l)) ∙ t ∙ ap (map f) (take_whole ys i m)
