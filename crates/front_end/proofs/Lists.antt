-- Lists, and lists beside them.
use Rattle.std.proofs.Common.{◌≡◌, ℕ, zero, suc, ◌+◌, ◌<◌, List, [], ◌∷◌, ◌++◌, length, map, take, Some, refl, sym, ap, ◌∙◌, arith, subst, get_or}
use Rattle.std.specs.Prelude.{slice_get}
use Rattle.std.specs.List.{AllZip, AllByRecursion}
use Rattle.std.proofs.Math.Seq.{take-suc}
use Rattle.std.proofs.lemmas.List.{map-append}

one_taken : {X Y : Type 0} (f : X → Y) (xs : List X) (k : ℕ) (x : X) → k < length xs → x ≡ get_or xs k x →
    map f (take (k + 1) xs) ≡ map f (take k xs) ++ f x ∷ []
one_taken f xs k x l e =
    let n : k + 1 ≡ suc k = omega arith in
    ap (λ j. map f (take j xs)) n ∙ ap (map f) (take-suc xs k x l) ∙ map-append f (take k xs) (get_or xs k x ∷ []) ∙ ap (λ y. map f (take k xs) ++ f y ∷ []) (sym e)

zip_push : {X Y : Type 0} (R : X → Y → Type 0) (xs : List X) (ys : List Y) (x : X) (y : Y) → AllZip R xs ys →
    R x y → AllZip R (xs ++ x ∷ []) (ys ++ y ∷ [])
zip_push R [] [] x y h r = (r, tt)
zip_push R [] (b ∷ ys) x y h r = absurd h
zip_push R (a ∷ xs) [] x y h r = absurd h
zip_push R (a ∷ xs) (b ∷ ys) x y h r = (h.0, zip_push R xs ys x y h.1 r)

-- one more element, and the one beside it
pub zip_more : {A B X Y : Type 0} (R : X → Y → Type 0) (f : A → X) (g : B → Y) (xs : List A) (k : ℕ) (x : A)
    (old new : List B) (y : B) → k < length xs → x ≡ get_or xs k x → AllZip R (map f (take k xs)) (map g old) →
    new ≡ old ++ y ∷ [] → R (f x) (g y) → AllZip R (map f (take (k + 1) xs)) (map g new)
zip_more R f g xs k x old new y l e h n r =
    let q = ap (map g) n ∙ map-append g old (y ∷ []) in
    rw (one_taken f xs k x l e, q) (zip_push R (map f (take k xs)) (map g old) (f x) (g y) h r)

-- the element beside an element
pub zip_at : {X Y : Type 0} (R : X → Y → Type 0) (xs : List X) (ys : List Y) (k : ℕ) (x : X) → AllZip R xs ys →
    slice_get xs k ≡ Some x → (y : Y) × R x y
zip_at R [] ys k x z e = absurd cc
zip_at R (a ∷ xs) [] k x z e = absurd z
zip_at R (a ∷ xs) (b ∷ ys) zero x z e = let q : a ≡ x = cc in (b, subst (λ w. R w b) q z.0)
zip_at R (a ∷ xs) (b ∷ ys) (suc k) x z e = zip_at R xs ys k x z.1 e

-- an element of a front has something beside it
pub zip_front : {A X Y : Type 0} (R : X → Y → Type 0) (f : A → X) (xs : List A) (k : ℕ) (ys : List Y) (i : ℕ) (x : X) →
    AllZip R (map f (take k xs)) ys → i < k → slice_get (map f xs) i ≡ Some x → (y : Y) × R x y
zip_front R f [] k ys i x z l e = absurd cc
zip_front R f (a ∷ xs) zero ys i x z l e = absurd (omega (arith, l))
zip_front R f (a ∷ xs) (suc k) [] i x z l e = absurd z
zip_front R f (a ∷ xs) (suc k) (b ∷ ys) zero x z l e = let q : f a ≡ x = cc in (b, subst (λ w. R w b) q z.0)
zip_front R f (a ∷ xs) (suc k) (b ∷ ys) (suc i) x z l e = zip_front R f xs k ys i x z.1 (omega (arith, l)) e

-- what holds for all elements beside others holds for each element of the other list
pub zip_all : {X Y : Type 0} (R : X → Y → Type 0) (P : Y → Type 0) (xs : List X) (ys : List Y) →
    ((x : X) (y : Y) → R x y → P y) → AllZip R xs ys → AllByRecursion P ys
zip_all R P [] [] h z = tt
zip_all R P [] (b ∷ ys) h z = absurd z
zip_all R P (a ∷ xs) [] h z = absurd z
zip_all R P (a ∷ xs) (b ∷ ys) h z = (h a b z.0, zip_all R P xs ys h z.1)

-- at most one list is beside another, if at most one element is beside each
pub zip_one : {X Y : Type 0} (R : X → Y → Type 0) (xs : List X) (ys zs : List Y) →
    ((x : X) (y z : Y) → R x y → R x z → y ≡ z) → AllZip R xs ys → AllZip R xs zs → ys ≡ zs
zip_one R [] [] [] h a b = refl
zip_one R [] (y ∷ ys) zs h a b = absurd a
zip_one R [] [] (z ∷ zs) h a b = absurd b
zip_one R (x ∷ xs) [] zs h a b = absurd a
zip_one R (x ∷ xs) (y ∷ ys) [] h a b = absurd b
zip_one R (x ∷ xs) (y ∷ ys) (z ∷ zs) h a b =
    ap (λ w. w ∷ ys) (h x y z a.0 b.0) ∙ ap (λ ws. z ∷ ws) (zip_one R xs ys zs h a.1 b.1)
