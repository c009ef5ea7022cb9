-- The types of members, by their places.
use Rattle.std.proofs.Common.{arith, ◌≡◌, ℕ, zero, suc, ◌+◌, ◌-◌, ◌<◌, ◌≤◌, List, [], ◌∷◌, ◌++◌, length, map, get_or, refl, ap, ◌∙◌, Some, None}
use Rattle.std.specs.Prelude.{slice_get, option_map}
use Rattle.std.proofs.lemmas.List.{length-map}
use Rattle.std.proofs.lemmas.Option.{same_Some, slice_get-map}
use Rattle.later_versions.proofs.Fronts.{mapped_at}

pub past_end : {A : Type 0} (xs : List A) (i : ℕ) → length xs ≤ i → slice_get xs i ≡ None
past_end [] i l = refl
past_end (x ∷ xs) zero l = absurd (omega (arith, l))
past_end (x ∷ xs) (suc i) l = past_end xs i (omega (arith, l))

pub there : {A B C : Type 0} (f : A → B) (g : B → C) (xs : List A) (i : ℕ) (x : A)
    → i < length xs
    → x ≡ get_or xs i x
    → slice_get (map g (map f xs)) i ≡ Some (g (f (get_or xs i x)))
there f g xs i x l e =
    slice_get-map g (map f xs) i ∙ ap (option_map g) (mapped_at f xs i x l e) ∙ ap (λ q. Some (g (f q))) e

pub not_there : {A B : Type 0} (f : A → B) (g : B → ℕ) (xs : List A) (i : ℕ)
    → length xs ≤ i
    → slice_get (map g (map f xs)) i ≡ None
not_there f g xs i l =
    let a = length-map xs f in let b = length-map (map f xs) g in past_end (map g (map f xs)) i (omega (arith, a, b, l))

front_get : {A : Type 0} (xs ys : List A) (i : ℕ) (x : A) → slice_get xs i ≡ Some x → slice_get (xs ++ ys) i ≡ Some x
front_get [] ys i x e = absurd cc
front_get (y ∷ xs) ys zero x e = e
front_get (y ∷ xs) ys (suc i) x e = front_get xs ys i x e

back_get : {A : Type 0} (xs ys : List A) (k : ℕ) → slice_get (xs ++ ys) (k + length xs) ≡ slice_get ys k
back_get [] ys k = ap (slice_get ys) (let e : k + 0 ≡ k = omega arith in e)
back_get (x ∷ xs) ys k =
    ap (slice_get (x ∷ (xs ++ ys))) (let e : k + suc (length xs) ≡ suc (k + length xs) = omega arith in e)
    ∙ back_get xs ys k

pub in_first : {A B C : Type 0} (f : A → B) (g : B → C) (xs ys : List A) (i : ℕ) (x : A)
    → i < length xs
    → x ≡ get_or xs i x
    → slice_get (map g (map f xs ++ map f ys)) i ≡ Some (g (f (get_or xs i x)))
in_first f g xs ys i x l e =
    slice_get-map g (map f xs ++ map f ys) i
    ∙ ap (option_map g) (front_get (map f xs) (map f ys) i (f x) (mapped_at f xs i x l e))
    ∙ ap (λ q. Some (g (f q))) e

pub in_second : {A B C : Type 0} (f : A → B) (g : B → C) (xs ys : List A) (i : ℕ) (y : A)
    → length xs ≤ i
    → i - length xs < length ys
    → y ≡ get_or ys (i - length xs) y
    → slice_get (map g (map f xs ++ map f ys)) i ≡ Some (g (f (get_or ys (i - length xs) y)))
in_second f g xs ys i y l m e =
    let n = length-map xs f in
    let p : i ≡ i - length xs + length (map f xs) = omega (arith, n, l) in
    slice_get-map g (map f xs ++ map f ys) i
    ∙ ap (option_map g) (
    ap (slice_get (map f xs ++ map f ys)) p
    ∙ back_get (map f xs) (map f ys) (i - length xs)
    ∙ mapped_at f ys (i - length xs) y m e
    )
    ∙ ap (λ q. Some (g (f q))) e

pub in_none : {A B : Type 0} (f : A → B) (g : B → ℕ) (xs ys : List A) (i : ℕ)
    → length xs ≤ i
    → length ys ≤ i - length xs
    → slice_get (map g (map f xs ++ map f ys)) i ≡ None
in_none f g xs ys i l m =
    let a = length-map (map f xs ++ map f ys) g in
    let b = length_both (map f xs) (map f ys) in
    let c = length-map xs f in
    let d = length-map ys f in
    past_end (map g (map f xs ++ map f ys)) i (omega (arith, a, b, c, d, l, m))
  where
    length_both : {A : Type 0} (xs ys : List A) → length (xs ++ ys) ≡ length xs + length ys
    length_both [] ys = omega arith
    length_both (x ∷ xs) ys = let h = length_both xs ys in omega (arith, h)

pub none_got : {A : Type 0} (xs : List A) (i : ℕ) (d : A) → slice_get xs i ≡ None → get_or xs i d ≡ d
none_got [] i d e = refl
none_got (x ∷ xs) zero d e = absurd cc
none_got (x ∷ xs) (suc i) d e = none_got xs i d e

pub or_some : {A : Type 0} (xs : List A) (i : ℕ) (d x : A) → slice_get xs i ≡ Some x → get_or xs i d ≡ x
or_some [] i d x e = absurd cc
or_some (y ∷ xs) zero d x e = same_Some y x e
or_some (y ∷ xs) (suc i) d x e = or_some xs i d x e
