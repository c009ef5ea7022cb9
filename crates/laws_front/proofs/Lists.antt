-- Lists with the same members in the same order are equal.
use Rattle.std.proofs.Common.{◌≡◌, ℕ, ◌<◌, List, [], ◌∷◌, refl, sym, ap, subst, ◌∙◌, arith, inl, inr}
use Rattle.std.proofs.lemmas.Int.{ints}
use Rattle.std.specs.Prelude.{◌⊎◌, ◌↔◌, ℤ, ◌<ℤ◌}
use Rattle.std.specs.List.{AllByRecursion}
use Rattle.asn_base.specs.Names.{IsMember, is_first, is_later}
use Rattle.asn_base.specs.Schemas.{CodesAscend, NumbersAscend}
use Rattle.asn_base.specs.Types.{Item}

of_all : {A : Type 0} (P : A → Type 0) (xs : List A) (x : A) → AllByRecursion P xs → IsMember x xs → P x
of_all P [] x a m = elim m [ ]
of_all P (y ∷ xs) x a is_first = a.0
of_all P (y ∷ xs) x a (is_later m) = of_all P xs x a.1 m

first_or_later : {A : Type 0} (x y : A) (ys : List A) → IsMember x (y ∷ ys) → (x ≡ y) ⊎ IsMember x ys
first_or_later x y ys is_first = inl refl
first_or_later x y ys (is_later m) = inr m

-- in this order each element comes before all later ones
abbrev Ascend : {A : Type 0} → (A → A → Type 0) → List A → Type 0
Ascend L [] = Unit {0}
Ascend L (x ∷ xs) = AllByRecursion (L x) xs × Ascend L xs

module _ {A : Type 0} (L : A → A → Type 0) (asym : (x y : A) → L x y → L y x → ⊥) where
  -- the first of both lists
  same_first : (x y : A) (xs ys : List A)
      → AllByRecursion (L x) xs
      → AllByRecursion (L y) ys
      → IsMember x (y ∷ ys)
      → IsMember y (x ∷ xs)
      → x ≡ y
  same_first x y xs ys a b m n =
      elim (first_or_later x y ys m) [
        | inl e ↦ e
        | inr later ↦ elim (first_or_later y x xs n) [
          | inl e ↦ sym e
          | inr late ↦ absurd (asym x y (of_all (L x) xs y a late) (of_all (L y) ys x b later))
        ]
      ]

  -- a later element of one list is a later one of the other
  still_later : (x y z : A) (xs ys : List A)
      → x ≡ y
      → AllByRecursion (L x) xs
      → IsMember z xs
      → IsMember z (y ∷ ys)
      → IsMember z ys
  still_later x y z xs ys e a m n =
      elim (first_or_later z y ys n) [
        | inl f ↦ (let l = subst (L x) (f ∙ sym e) (of_all (L x) xs z a m) in absurd (asym x x l l))
        | inr later ↦ later
      ]

  same_list : (xs ys : List A)
      → Ascend L xs
      → Ascend L ys
      → ((z : A) → IsMember z xs → IsMember z ys)
      → ((z : A) → IsMember z ys → IsMember z xs)
      → xs ≡ ys
  same_list [] [] a b f g = refl
  same_list [] (y ∷ ys) a b f g = elim (g y is_first) [ ]
  same_list (x ∷ xs) [] a b f g = elim (f x is_first) [ ]
  same_list (x ∷ xs) (y ∷ ys) a b f g =
      let e = same_first x y xs ys a.0 b.0 (f x is_first) (g y is_first) in
      let rest = same_list xs ys a.1 b.1
      (λ z m. still_later x y z xs ys e a.0 m (f z (is_later m)))
      (λ z m. still_later y x z ys xs (sym e) b.0 m (g z (is_later m))) in
      ap (λ w. w ∷ xs) e ∙ ap (λ ws. y ∷ ws) rest

-- ---- codes and items

codes_ascend : (cs : List ℕ) → CodesAscend cs → Ascend (λ c d. c < d) cs
codes_ascend [] a = tt
codes_ascend (c ∷ cs) a = (a.0, codes_ascend cs a.1)

not_both_below : (c d : ℕ) → c < d → d < c → ⊥
not_both_below c d l m = omega (arith, l, m)

-- codes in order are determined by which they are
pub same_codes : (cs ds : List ℕ) (P : ℕ → Type 0)
    → CodesAscend cs
    → CodesAscend ds
    → ((c : ℕ) → (IsMember c cs ↔ P c))
    → ((c : ℕ) → (IsMember c ds ↔ P c))
    → cs ≡ ds
same_codes cs ds P a b f g =
    same_list (λ c d. c < d) not_both_below cs ds (codes_ascend cs a) (codes_ascend ds b)
    (λ c m. (g c).1 ((f c).0 m))
    (λ c m. (f c).1 ((g c).0 m))

items_ascend : (is : List Item) → NumbersAscend is → Ascend (λ i j. i.number <ℤ j.number) is
items_ascend [] a = tt
items_ascend (i ∷ is) a = (a.0, items_ascend is a.1)

neither_below : (y z : ℤ) → y <ℤ z → z <ℤ y → ⊥
neither_below y z l m = omega (arith, ints, l, m)

-- items in order of number are determined by which they are
pub same_items : (is js : List Item) (P : Item → Type 0)
    → NumbersAscend is
    → NumbersAscend js
    → ((i : Item) → (IsMember i is ↔ P i))
    → ((i : Item) → (IsMember i js ↔ P i))
    → is ≡ js
same_items is js P a b f g =
    same_list (λ i j. i.number <ℤ j.number) (λ i j. neither_below i.number j.number) is js (items_ascend is a)
    (items_ascend js b)
    (λ i m. (g i).1 ((f i).0 m))
    (λ i m. (f i).1 ((g i).0 m))
