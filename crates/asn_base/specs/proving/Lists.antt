-- Elements of lists at their places, lists from a place on, lists that change at one place, and what holds of all
-- elements.
use Rattle.std.proofs.Common.{arith, ◌≡◌, ◌⊎◌, inl, inr, ℕ, zero, suc, ◌+◌, ◌-◌, ◌*◌, ◌<◌, ◌≤◌, List, [], ◌∷◌, ◌++◌, length, map, drop, take, set, get_or, refl, sym, ap, subst, ◌∙◌}
use Rattle.std.specs.Prelude.{◌↔◌, Option, Some, None, option_map, slice_get, slice_index_or}
use Rattle.std.specs.List.{AllByRecursion, flat_map}
use Rattle.std.proofs.lemmas.List.{length-append}
use Rattle.std.proofs.lemmas.Option.{slice_get-map, slice_get_read}
use Rattle.asn_base.specs.Abstract.{bits_of_octet, placed}

-- ---- elements at their places

pub of_first : {A B : Type 0} (f : A → B) (xs : List A) (ys : List B) (i : ℕ) (d : A)
    → i < length xs
    → slice_get (map f xs ++ ys) i ≡ Some (f (get_or xs i d))
of_first f [] ys i d l = absurd (omega arith)
of_first f (x ∷ xs) ys zero d l = refl
of_first f (x ∷ xs) ys (suc i) d l = of_first f xs ys i d (omega arith)

pub found_at : {A B : Type 0} (f : A → B) (xs : List A) (i : ℕ) (d : A)
    → i < length xs
    → slice_get (map f xs) i ≡ Some (f (get_or xs i d))
found_at f [] i d l = absurd (omega arith)
found_at f (x ∷ xs) zero d l = refl
found_at f (x ∷ xs) (suc i) d l = found_at f xs i d (omega arith)

pub of_second : {A B : Type 0} (f : A → B) (xs : List B) (ys : List A) (i j : ℕ) (d : A)
    → i ≡ length xs + j
    → j < length ys
    → slice_get (xs ++ map f ys) i ≡ Some (f (get_or ys j d))
of_second f [] ys i j d e l = ap (slice_get (map f ys)) (let h : i ≡ j = omega arith in h) ∙ found_at f ys j d l
of_second f (x ∷ xs) ys zero j d e l = absurd (omega arith)
of_second f (x ∷ xs) ys (suc i) j d e l = of_second f xs ys i j d (omega arith) l

pub of_none : {B : Type 0} (xs ys : List B) (i : ℕ)
    → length xs ≤ i
    → length ys ≤ i - length xs
    → slice_get (xs ++ ys) i ≡ None
of_none [] [] i l m = refl
of_none [] (y ∷ ys) zero l m = absurd (omega arith)
of_none [] (y ∷ ys) (suc i) l m = of_none [] ys i (omega arith) (omega arith)
of_none (x ∷ xs) ys zero l m = absurd (omega arith)
of_none (x ∷ xs) ys (suc i) l m = of_none xs ys i (omega arith) (omega arith)

pub length_mapped : {A B : Type 0} (f : A → B) (xs : List A) → length (map f xs) ≡ length xs
length_mapped f [] = refl
length_mapped f (x ∷ xs) = ap suc (length_mapped f xs)

-- the element at a place of a list in memory
pub seen_here : {A B : Type 0} (f : A → B) (xs : List A) (i : ℕ) (x : A)
    → i < length xs
    → x ≡ get_or xs i x
    → slice_get (map f xs) i ≡ Some (f x)
seen_here f xs i x l q = slice_get-map f xs i ∙ ap (option_map f) (slice_get_read xs (length xs) i x refl l q)

-- one element more
pub taken_more : {A : Type 0} (xs : List A) (i : ℕ) (x : A)
    → slice_get xs i ≡ Some x
    → take (i + 1) xs ≡ take i xs ++ x ∷ []
taken_more [] i x e = absurd cc
taken_more (y ∷ xs) zero x e = let q : y ≡ x = cc in rw q refl
taken_more (y ∷ xs) (suc i) x e =
    let q : suc i + 1 ≡ suc (i + 1) = omega arith in
    rw q (ap (λ t. y ∷ t) (taken_more xs i x e))

-- ---- lists from a place on

pub drop_at : {A B : Type 0} (f : A → B) (xs : List A) (i : ℕ) (d : A)
    → i < length xs
    → drop i (map f xs) ≡ f (get_or xs i d) ∷ drop (i + 1) (map f xs)
drop_at f [] i d h = absurd (omega arith)
drop_at f (x ∷ xs) zero d h = refl
drop_at f (x ∷ xs) (suc i) d h =
    let e : suc (i + 1) ≡ suc i + 1 = omega arith in
    drop_at f xs i d (omega arith) ∙ ap (λ k. f (get_or xs i d) ∷ drop k (f x ∷ map f xs)) e

-- the same if the element there is known
pub drop_is : {A B : Type 0} (f : A → B) (xs : List A) (i : ℕ) (d : A)
    → i < length xs
    → d ≡ get_or xs i d
    → drop i (map f xs) ≡ f d ∷ drop (i + 1) (map f xs)
drop_is f xs i d h e = drop_at f xs i d h ∙ ap (λ x. f x ∷ drop (i + 1) (map f xs)) (sym e)

pub drop_here : {A : Type 0} (xs : List A) (i : ℕ) (d : A) → i < length xs → drop i xs ≡ get_or xs i d ∷ drop (i + 1) xs
drop_here [] i d h = absurd (omega arith)
drop_here (x ∷ xs) zero d h = refl
drop_here (x ∷ xs) (suc i) d h =
    let e : suc (i + 1) ≡ suc i + 1 = omega arith in
    drop_here xs i d (omega arith) ∙ ap (λ k. get_or xs i d ∷ drop k (x ∷ xs)) e

pub drop_end : {A B : Type 0} (f : A → B) (xs : List A) (i : ℕ) → length xs ≤ i → drop i (map f xs) ≡ []
drop_end f [] zero h = refl
drop_end f [] (suc i) h = refl
drop_end f (x ∷ xs) zero h = absurd (omega arith)
drop_end f (x ∷ xs) (suc i) h = drop_end f xs i (omega arith)

pub drop_past : {A : Type 0} (xs : List A) (i : ℕ) → length xs ≤ i → drop i xs ≡ []
drop_past [] zero h = refl
drop_past [] (suc i) h = refl
drop_past (x ∷ xs) zero h = absurd (omega arith)
drop_past (x ∷ xs) (suc i) h = drop_past xs i (omega arith)

-- P holds for the whole exactly if it holds for what is left
pub left_at : {B : Type 0} (P : List B → Type 0) (ys : List B) (left : List B) (i : ℕ)
    → drop i ys ≡ left
    → P ys ↔ P (drop i ys)
    → P ys ↔ P left
left_at P ys left i e a = subst (λ q. P ys ↔ P q) e a

pub onward : {P Q R : Type 0} → P ↔ Q → (Q → R) → (R → Q) → P ↔ R
onward a f g = (λ p. f (a.0 p), λ r. a.1 (g r))

-- ---- lists of answers, one for each place

pub placed_at : {A : Type 0} (n : ℕ) (f : ℕ → Option A) (i : ℕ)
    → i < n
    → drop i (placed n f) ≡ f i ∷ drop (suc i) (placed n f)
placed_at zero f i l = absurd (omega (arith, l))
placed_at (suc n) f zero l = refl
placed_at (suc n) f (suc i) l =
    let e : i + 1 ≡ suc i = omega arith in
    placed_at n (λ j. f (j + 1)) i (omega (arith, l)) ∙ ap (λ k. f k ∷ drop (suc i) (placed n (λ j. f (j + 1)))) e

pub place_is : {A : Type 0} (n : ℕ) (f : ℕ → Option A) (i : ℕ)
    → i < n
    → drop i (placed n f) ≡ f i ∷ drop (i + 1) (placed n f)
place_is n f i l =
    let e : i + 1 ≡ suc i = omega arith in
    placed_at n f i l ∙ ap (λ k. f i ∷ drop k (placed n f)) (sym e)

pub places : {A : Type 0} (n : ℕ) (f : ℕ → Option A) → length (placed n f) ≡ n
places zero f = refl
places (suc n) f = ap suc (places n (λ j. f (j + 1)))

-- ---- a list with one element more, or with another one

pub set_kept : (xs : List ℕ) (i j s : ℕ) → slice_get xs j ≡ Some s → slice_get (set xs i s) j ≡ Some s
set_kept [] i j s e = absurd cc
set_kept (x ∷ xs) zero zero s e = refl
set_kept (x ∷ xs) zero (suc j) s e = e
set_kept (x ∷ xs) (suc i) zero s e = e
set_kept (x ∷ xs) (suc i) (suc j) s e = set_kept xs i j s e

pub set_here : (xs : List ℕ) (i s : ℕ) → i < length xs → slice_get (set xs i s) i ≡ Some s
set_here [] i s l = absurd (omega arith)
set_here (x ∷ xs) zero s l = refl
set_here (x ∷ xs) (suc i) s l = set_here xs i s (omega arith)

pub set_only : (xs : List ℕ) (i j s n : ℕ)
    → slice_get (set xs i s) j ≡ Some n
    → slice_get xs j ≡ Some n ⊎ ((j ≡ i) × (n ≡ s))
set_only [] i j s n e = inl e
set_only (x ∷ xs) zero zero s n e = let q : s ≡ n = cc in inr (refl, sym q)
set_only (x ∷ xs) zero (suc j) s n e = inl e
set_only (x ∷ xs) (suc i) zero s n e = inl e
set_only (x ∷ xs) (suc i) (suc j) s n e = elim (set_only xs i j s n e) [ inl h ↦ inl h | inr h ↦ inr (ap suc h.0, h.1) ]

pub last : (xs : List ℕ) (x : ℕ) → slice_get (xs ++ x ∷ []) (length xs) ≡ Some x
last [] x = refl
last (y ∷ xs) x = last xs x

pub stays : (xs ys : List ℕ) (k j : ℕ) → slice_get xs k ≡ Some j → slice_get (xs ++ ys) k ≡ Some j
stays [] ys k j e = absurd cc
stays (x ∷ xs) ys zero j e = e
stays (x ∷ xs) ys (suc k) j e = stays xs ys k j e

-- ---- what holds of all elements

pub all_more : {A : Type 0} (P : A → Type 0) (xs : List A) (i : ℕ) (d : A)
    → i < length xs
    → AllByRecursion P (take i xs)
    → P (slice_index_or xs i d)
    → AllByRecursion P (take (i + 1) xs)
all_more P [] i d h a p = absurd (omega arith)
all_more P (x ∷ xs) zero d h a p = (p, tt)
all_more P (x ∷ xs) (suc i) d h a p =
    let q : suc i + 1 ≡ suc (i + 1) = omega arith in
    rw q (a.0, all_more P xs i d (omega arith) a.1 p)

pub all_of : {A : Type 0} (P : A → Type 0) (xs : List A) (i : ℕ)
    → length xs ≤ i
    → AllByRecursion P (take i xs)
    → AllByRecursion P xs
all_of P [] i h a = tt
all_of P (x ∷ xs) zero h a = absurd (omega arith)
all_of P (x ∷ xs) (suc i) h a = (a.0, all_of P xs i (omega arith) a.1)

pub one_of : {A : Type 0} (P : A → Type 0) (xs : List A) (i : ℕ) (d : A)
    → i < length xs
    → AllByRecursion P xs
    → P (slice_index_or xs i d)
one_of P [] i d h a = absurd (omega arith)
one_of P (x ∷ xs) zero d h a = a.0
one_of P (x ∷ xs) (suc i) d h a = one_of P xs i d (omega arith) a.1

pub each_weaker : {A : Type 0} (P Q : A → Type 0) (xs : List A)
    → ((x : A) → P x → Q x)
    → AllByRecursion P xs
    → AllByRecursion Q xs
each_weaker P Q [] f a = tt
each_weaker P Q (x ∷ xs) f a = (f x a.0, each_weaker P Q xs f a.1)

-- ---- bits of octets

pub eight_each : (s : List ℕ) → length (flat_map bits_of_octet s) ≡ 8 * length s
eight_each [] = refl
eight_each (x ∷ s) =
    let e : length (flat_map bits_of_octet (x ∷ s)) ≡ 8 + length (flat_map bits_of_octet s) =
    length-append (bits_of_octet x) (flat_map bits_of_octet s) in
    let h = eight_each s in
    omega arith

pub taken : {A : Type 0} (n : ℕ) (xs : List A) → n ≤ length xs → length (take n xs) ≡ n
taken zero xs h = refl
taken (suc n) [] h = absurd (omega arith)
taken (suc n) (x ∷ xs) h = ap suc (taken n xs (omega arith))

pub bits_length : (s : List ℕ) (unused : ℕ)
    → length (take (8 * length s - unused) (flat_map bits_of_octet s)) ≡ 8 * length s - unused
bits_length s unused = let e = eight_each s in taken (8 * length s - unused) (flat_map bits_of_octet s) (omega arith)
