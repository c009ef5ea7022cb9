-- Two ascending lists of the same encodings are one list.
use Rattle.std.proofs.Common.{◌≡◌, ℕ, List, [], ◌∷◌, refl, subst}
use Rattle.std.specs.List.{AllByRecursion}
use Rattle.encodings.specs.Orders.{Ascending, ascending_none, ascending_one, ascending_more, EncodingInserted, here, there, Permutes, permutes_none, permutes_more}

-- x and y may be put in either first
exchange : {x y : List ℕ} {ls bs cs : List (List ℕ)} → EncodingInserted x ls bs → EncodingInserted y bs cs → (ds : List (List ℕ)) × EncodingInserted y ls ds × EncodingInserted x ds cs
exchange {x} {y} {ls} i here = (y ∷ ls, here, there i)
exchange here (there j) = (_, j, here)
exchange (there {y = b} i) (there j) = let r = exchange i j in (b ∷ r.0, there r.1, there r.2)

put_at : {x : List ℕ} {xs ys zs : List (List ℕ)} → Permutes ys xs → EncodingInserted x ys zs → Permutes zs (x ∷ xs)
put_at p here = permutes_more p here
put_at (permutes_more p i) (there j) = permutes_more (put_at p j) (there i)

pub permutes_sym : {xs ys : List (List ℕ)} → Permutes xs ys → Permutes ys xs
permutes_sym permutes_none = permutes_none
permutes_sym (permutes_more p i) = put_at (permutes_sym p) i

take_at : {x : List ℕ} {ls bs cs : List (List ℕ)} → EncodingInserted x ls bs → Permutes bs cs → (ds : List (List ℕ)) × Permutes ls ds × EncodingInserted x ds cs
take_at here (permutes_more p i) = (_, p, i)
take_at (there i) (permutes_more p j) =
    let r = take_at i p in
    let e = exchange r.2 j in
    (e.0, permutes_more r.1 e.1, e.2)

pub permutes_trans : {xs ys zs : List (List ℕ)} → Permutes xs ys → Permutes ys zs → Permutes xs zs
permutes_trans permutes_none q = q
permutes_trans (permutes_more p i) q = let r = take_at i q in permutes_more (permutes_trans p r.1) r.2

module _ (R : List ℕ → List ℕ → Type 0) (trans : (x y z : List ℕ) → R x y → R y z → R x z) where
  rest_ascends : {x : List ℕ} {xs : List (List ℕ)} → Ascending R (x ∷ xs) → Ascending R xs
  rest_ascends ascending_one = ascending_none
  rest_ascends (ascending_more h a) = a

  -- the first is related to each
  first_least : {x y : List ℕ} {ys zs : List (List ℕ)} → Ascending R (x ∷ zs) → EncodingInserted y ys zs → R x y
  first_least ascending_one i = elim i [ ]
  first_least (ascending_more h a) here = h
  first_least {x} {y} (ascending_more {y = z} h a) (there i) = trans x z y h (first_least a i)

  -- without its second element
  skip : {x y : List ℕ} {ys : List (List ℕ)} → Ascending R (x ∷ y ∷ ys) → Ascending R (x ∷ ys)
  skip (ascending_more h ascending_one) = ascending_one
  skip {x} {y} (ascending_more h (ascending_more {y = z} k a)) = ascending_more (trans x y z h k) a

  -- without one element
  without : {y : List ℕ} {ys zs : List (List ℕ)} → Ascending R zs → EncodingInserted y ys zs → Ascending R ys
  without a here = rest_ascends a
  without {ys = y ∷ []} a (there i) = ascending_one
  without {ys = y ∷ z ∷ ys} a (there here) = skip a
  without {ys = y ∷ z ∷ ys} (ascending_more h a) (there (there i)) = ascending_more h (without a (there i))

  module _ (P : List ℕ → Type 0) (anti : (x y : List ℕ) → P x → P y → R x y → R y x → x ≡ y) where
    in_front : {x : List ℕ} {xs zs : List (List ℕ)} → P x → AllByRecursion P xs → Ascending R (x ∷ xs) → Ascending R zs → EncodingInserted x xs zs → zs ≡ x ∷ xs
    in_front px ps a b here = refl
    in_front {x} px ps (ascending_more {y = y} h a) b (there {xs = xs} {ys = ys} i) =
        let same : x ≡ y = anti x y px ps.0 h (first_least b i) in
        let rest : ys ≡ x ∷ xs = in_front px ps.1 (skip (ascending_more h a)) (rest_ascends b) i in
        cc

    pub sorted_same : {xs ys : List (List ℕ)} → AllByRecursion P xs → Permutes xs ys → Ascending R xs → Ascending R ys → ys ≡ xs
    sorted_same ps permutes_none a b = refl
    sorted_same ps (permutes_more {x = x} {xs = xs} {ys = ys} {zs = zs} p i) a b =
        let same : ys ≡ xs = sorted_same ps.1 p (rest_ascends a) (without b i) in
        in_front ps.0 ps.1 a b (subst (λ q. EncodingInserted x q zs) same i)
