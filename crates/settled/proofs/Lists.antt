-- Members of lists, by their places and by what holds of all.
use Rattle.std.proofs.Common.{◌≡◌, ℕ, zero, suc, ◌<◌, ◌≤◌, List, [], ◌∷◌, ◌++◌, length, Some, refl, sym, ap, subst, ◌∙◌, arith, inl, inr}
use Rattle.std.specs.Prelude.{◌⊎◌, map, option_map, slice_get}
use Rattle.std.specs.List.{AllByRecursion}
use Rattle.std.proofs.lemmas.Option.{same_Some, none-some, slice_get-map}
use Rattle.asn_base.specs.Names.{IsMember, is_first, is_later, AreDistinct, AreNames, IsIdentifier}
use Rattle.trees.specs.Values.{Name}
use Rattle.names.specs.Modules.{OccursIn}
use Rattle.names.specs.Modules as modules

-- ---- members and places

pub place_of : {A : Type 0} (x : A) (xs : List A) → IsMember x xs → OccursIn xs x
place_of x [] m = elim m [ ]
place_of x (y ∷ ys) is_first = (0, refl)
place_of x (y ∷ ys) (is_later m) = let r = place_of x ys m in (suc r.0, r.1)

pub member_at : {A : Type 0} (x : A) (xs : List A) (i : ℕ) → slice_get xs i ≡ Some x → IsMember x xs
member_at x [] i e = absurd (none-some x e)
member_at x (y ∷ ys) zero e = subst (λ z. IsMember z (y ∷ ys)) (same_Some y x e) is_first
member_at x (y ∷ ys) (suc i) e = is_later (member_at x ys i e)

pub of_back : {A : Type 0} (x : A) (xs ys : List A) → IsMember x ys → IsMember x (xs ++ ys)
of_back x [] ys m = m
of_back x (z ∷ xs) ys m = is_later (of_back x xs ys m)

pub in_part : {A : Type 0} (x : A) (xs ys : List A) → IsMember x (xs ++ ys) → IsMember x xs ⊎ IsMember x ys
in_part x [] ys m = inr m
in_part x (y ∷ xs) ys is_first = inl is_first
in_part x (y ∷ xs) ys (is_later m) = elim (in_part x xs ys m) [ inl a ↦ inl (is_later a) | inr b ↦ inr b ]

-- ---- what holds of all

pub all_members : {A : Type 0} (P : A → Type 0) (xs : List A) → ((x : A) → IsMember x xs → P x) → AllByRecursion P xs
all_members P [] f = tt
all_members P (x ∷ xs) f = (f x is_first, all_members P xs (λ y m. f y (is_later m)))

pub of_all : {A : Type 0} (P : A → Type 0) (xs : List A) (x : A) → AllByRecursion P xs → IsMember x xs → P x
of_all P [] x a m = elim m [ ]
of_all P (y ∷ xs) x a is_first = a.0
of_all P (y ∷ xs) x a (is_later m) = of_all P xs x a.1 m

pub all_mapped : {A B : Type 0} (P : B → Type 0) (f : A → B) (xs : List A) → AllByRecursion (λ x. P (f x)) xs → AllByRecursion P (map f xs)
all_mapped P f [] a = tt
all_mapped P f (x ∷ xs) a = (a.0, all_mapped P f xs a.1)

-- a member of the values of a function is that of a member
pub record IsValueOf {A B : Type 0} (f : A → B) (xs : List A) (y : B) : Type 0 where
  pub argument : A
  pub member : IsMember argument xs
  pub same : f argument ≡ y

pub value_of : {A B : Type 0} (f : A → B) (xs : List A) (y : B) → IsMember y (map f xs) → IsValueOf f xs y
value_of f [] y m = elim m [ ]
value_of f (x ∷ xs) y is_first = record { argument = x; member = is_first; same = refl }
value_of f (x ∷ xs) y (is_later m) = let r = value_of f xs y m in record { argument = r.argument; member = is_later r.member; same = r.same }

-- ---- none twice

pub none_twice : {A : Type 0} (xs : List A) → modules.AreDifferent xs → AreDistinct xs
none_twice [] d = tt
none_twice (x ∷ xs) d = (
  (λ m. (let r = place_of x xs m in d x (record { first = 0; second = suc r.0; apart = omega arith; here = refl; there = r.1 }))),
  none_twice xs (λ y t. d y (record { first = suc t.first; second = suc t.second; apart = (let l = t.apart in omega arith); here = t.here; there = t.there })),
)

pub less_or_more : (i j : ℕ) → (i ≡ j) ⊎ ((i < j) ⊎ (j < i))
less_or_more i j = grind arith

-- two places of distinct members with the same element are the same
pub one_place : {A : Type 0} (xs : List A) (x : A) (i j : ℕ) → modules.AreDifferent xs → slice_get xs i ≡ Some x →
    slice_get xs j ≡ Some x → i ≡ j
one_place xs x i j d e f =
    elim (less_or_more i j) [
      | inl h ↦ h
      | inr h ↦ elim h [
        | inl l ↦ absurd (d x (record { first = i; second = j; apart = l; here = e; there = f }))
        | inr l ↦ absurd (d x (record { first = j; second = i; apart = l; here = f; there = e }))
      ]
    ]

pub value_member : {A B : Type 0} (f : A → B) (xs : List A) (x : A) → IsMember x xs → IsMember (f x) (map f xs)
value_member f [] x m = elim m [ ]
value_member f (y ∷ xs) x is_first = is_first
value_member f (y ∷ xs) x (is_later m) = is_later (value_member f xs x m)

-- ---- distinct members aren't more than those among which they are

-- the list without the member
abbrev without : {A : Type 0} (x : A) (ys : List A) → IsMember x ys → List A
without x [] m = []
without x (y ∷ ys) is_first = ys
without x (y ∷ ys) (is_later m) = y ∷ without x ys m

one_less : {A : Type 0} (x : A) (ys : List A) (m : IsMember x ys) → length ys ≡ suc (length (without x ys m))
one_less x [] m = elim m [ ]
one_less x (y ∷ ys) is_first = refl
one_less x (y ∷ ys) (is_later m) = ap suc (one_less x ys m)

still_member : {A : Type 0} (x z : A) (ys : List A) (m : IsMember x ys) → (z ≡ x → ⊥) → IsMember z ys → IsMember z (without x ys m)
still_member x z [] m d n = elim m [ ]
still_member x z (y ∷ ys) is_first d is_first = absurd (d refl)
still_member x z (y ∷ ys) is_first d (is_later n) = n
still_member x z (y ∷ ys) (is_later m) d is_first = is_first
still_member x z (y ∷ ys) (is_later m) d (is_later n) = is_later (still_member x z ys m d n)

pub no_more : {A : Type 0} (xs ys : List A) → AreDistinct xs → ((x : A) → IsMember x xs → IsMember x ys) → length xs ≤ length ys
no_more [] ys d f = omega arith
no_more (x ∷ xs) ys d f =
    let m = f x is_first in
    let a = no_more xs (without x ys m) d.1 (λ z n. still_member x z ys m (λ e. d.0 (subst (λ w. IsMember w xs) e n)) (f z (is_later n))) in
    let b = one_less x ys m in
    omega (arith, a, b)

-- ---- two lists, one after the other

pub in_front : {A : Type 0} (xs ys : List A) (n : ℕ) (x : A) → n < length xs → slice_get (xs ++ ys) n ≡ Some x → slice_get xs n ≡ Some x
in_front [] ys n x l e = absurd (omega (arith, l))
in_front (y ∷ xs) ys zero x l e = e
in_front (y ∷ xs) ys (suc n) x l e = in_front xs ys n x (omega (arith, l)) e

pub in_back : {A : Type 0} (xs ys : List A) (n : ℕ) (x : A) → length xs ≤ n → slice_get (xs ++ ys) n ≡ Some x → OccursIn ys x
in_back [] ys n x l e = (n, e)
in_back (y ∷ xs) ys zero x l e = absurd (omega (arith, l))
in_back (y ∷ xs) ys (suc n) x l e = in_back xs ys n x (omega (arith, l)) e

-- an element at a place of a list has its value at that place of the values
pub value_at : {A B : Type 0} (f : A → B) (xs : List A) (n : ℕ) (x : A) → slice_get xs n ≡ Some x → slice_get (map f xs) n ≡ Some (f x)
value_at f xs n x e = slice_get-map f xs n ∙ ap (option_map f) e

-- a list as long has something at the same places
pub there_too : {A B : Type 0} (xs : List A) (ys : List B) (i : ℕ) (x : A) → length ys ≡ length xs → slice_get xs i ≡ Some x → (y : B) × (slice_get ys i ≡ Some y)
there_too [] ys i x l e = absurd (none-some x e)
there_too (z ∷ xs) [] i x l e = absurd (omega (arith, l))
there_too (z ∷ xs) (y ∷ ys) zero x l e = (y, refl)
there_too (z ∷ xs) (y ∷ ys) (suc i) x l e = there_too xs ys i x (omega (arith, l)) e

pub no_members : {A : Type 0} (xs : List A) → ((x : A) → IsMember x xs → ⊥) → xs ≡ []
no_members [] f = refl
no_members (x ∷ xs) f = absurd (f x is_first)

pub some_member : {A : Type 0} (x : A) (xs : List A) → IsMember x xs → 1 ≤ length xs
some_member x [] m = elim m [ ]
some_member x (y ∷ xs) m = omega arith

-- members that are distinct by one value are distinct by another that determines the first
pub distinct_by : {A B C : Type 0} (f : A → B) (g : A → C) (xs : List A) → ((x y : A) → IsMember x xs → IsMember y xs → g x ≡ g y → f x ≡ f y) →
    AreDistinct (map f xs) → AreDistinct (map g xs)
distinct_by f g [] h d = tt
distinct_by f g (x ∷ xs) h d = (
  (λ m. (let v = value_of g xs (g x) m in
      d.0 (subst (λ w. IsMember w (map f xs)) (h v.argument x (is_later v.member) is_first v.same) (value_member f xs v.argument v.member)))),
  distinct_by f g xs (λ y z m n. h y z (is_later m) (is_later n)) d.1,
)

pub distinct_append : {A B : Type 0} (f : A → B) (xs ys : List A) → AreDistinct (map f xs) → AreDistinct (map f ys) →
    ((x y : A) → IsMember x xs → IsMember y ys → f x ≡ f y → ⊥) → AreDistinct (map f (xs ++ ys))
distinct_append f [] ys d e h = e
distinct_append f (x ∷ xs) ys d e h = (
  (λ m. (let v = value_of f (xs ++ ys) (f x) m in
      elim (in_part v.argument xs ys v.member) [
        | inl n ↦ d.0 (subst (λ w. IsMember w (map f xs)) v.same (value_member f xs v.argument n))
        | inr n ↦ h x v.argument is_first n (sym v.same)
      ])),
  distinct_append f xs ys d.1 e (λ y z m n. h y z (is_later m) n),
)
