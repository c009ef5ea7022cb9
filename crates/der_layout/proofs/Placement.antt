-- Members in their order are at places that are a permutation.
use Rattle.std.proofs.Common.{◌≡◌, ℕ, zero, suc, ◌+◌, ◌<◌, inl, inr, List, [], ◌∷◌, length, map, set, get_or, eqb, refl, sym, ap, subst, ◌∙◌, arith}
use Rattle.std.specs.Prelude.{Option, Some, None, slice_get, replicate}
use Rattle.std.specs.List.{AllByRecursion}
use Rattle.std.specs.List.Sorted.{IsPermutation}
use Rattle.std.proofs.lemmas.List.{length-map, length-replicate}
use Rattle.std.proofs.lemmas.List.Sorted.{IsPermutation-map, IsPermutation-sym, All-permutation, length_permutation}
use Rattle.std.proofs.lemmas.List.Elements.{All-from_recursion, recursion_from_All}
use Rattle.std.proofs.lemmas.Option.{slice_get_within, get_or_from_slice_get}
use Rattle.std.proofs.lemmas.Bool.{eqb-false, ne_eqb}
use Rattle.std.proofs.lemmas.Bool.Decides.{eqb_tells}
use Rattle.std.proofs.lemmas.Map.Keys.{IsDistinct-from_apart, IsDistinct-IsPermutation, apart_from_distinct}
use Rattle.std.specs.List.{IsDistinct}
use Rattle.encodings.specs.Account.{ArePlacedAt}
use Rattle.codec_code.specs.Events.{encodings_of}
use Rattle.der_layout.specs.declared.table.Member.{Member}
use Rattle.der_layout.specs.Rows.{numbers_in, placed_from, places_by}
use Rattle.der_layout.specs.Tables.{placed_of}

-- members with their numbers, from k on
abbrev pub Numbered : ℕ → List Member → Type 0
Numbered k [] = Unit {0}
Numbered k (m ∷ ms) = (m.number ≡ k) × Numbered (suc k) ms

-- ---- elements of lists

abbrev some_or : {A : Type 0} → A → Option A → A
some_or d None = d
some_or d (Some x) = x

same_some : {A : Type 0} {x y : A} → Some x ≡ Some y → x ≡ y
same_some {x = x} e = ap (some_or x) e

not_there : {A : Type 0} {x : A} → None ≡ Some x → ⊥
not_there e = cc

all_at : {A : Type 0} (P : A → Type 0) (xs : List A) → ((i : ℕ) (x : A) → slice_get xs i ≡ Some x → P x) → AllByRecursion P xs
all_at P [] h = tt
all_at P (x ∷ xs) h = (h 0 x refl, all_at P xs (λ i y e. h (suc i) y e))

at_all : {A : Type 0} (P : A → Type 0) (xs : List A) → AllByRecursion P xs → (i : ℕ) (x : A) → slice_get xs i ≡ Some x → P x
at_all P [] a i x e = absurd (not_there e)
at_all P (y ∷ xs) a zero x e = subst P (same_some e) a.0
at_all P (y ∷ xs) a (suc i) x e = at_all P xs a.1 i x e

map_to : {A B : Type 0} (f : A → B) (xs : List A) (i : ℕ) (x : A) → slice_get xs i ≡ Some x → slice_get (map f xs) i ≡ Some (f x)
map_to f [] i x e = absurd (not_there e)
map_to f (y ∷ xs) zero x e = ap (λ q. Some (f q)) (same_some e)
map_to f (y ∷ xs) (suc i) x e = map_to f xs i x e

map_from : {A B : Type 0} (f : A → B) (xs : List A) (i : ℕ) (y : B) → slice_get (map f xs) i ≡ Some y → (x : A) × (slice_get xs i ≡ Some x) × (f x ≡ y)
map_from f [] i y e = absurd (not_there e)
map_from f (x ∷ xs) zero y e = (x, refl, same_some e)
map_from f (x ∷ xs) (suc i) y e = map_from f xs i y e

found_at : {A : Type 0} (xs : List A) (i : ℕ) → i < length xs → (x : A) × (slice_get xs i ≡ Some x)
found_at [] i h = absurd (omega arith)
found_at (x ∷ xs) zero h = (x, refl)
found_at (x ∷ xs) (suc i) h = found_at xs i (omega arith)

length_set : (p : List ℕ) (i x : ℕ) → length (set p i x) ≡ length p
length_set [] i x = refl
length_set (y ∷ p) zero x = refl
length_set (y ∷ p) (suc i) x = ap suc (length_set p i x)

set_here : (p : List ℕ) (i x : ℕ) → i < length p → slice_get (set p i x) i ≡ Some x
set_here [] i x h = absurd (omega arith)
set_here (y ∷ p) zero x h = refl
set_here (y ∷ p) (suc i) x h = set_here p i x (omega arith)

set_other : (p : List ℕ) (i j x : ℕ) → (i ≡ j → ⊥) → slice_get (set p i x) j ≡ slice_get p j
set_other [] i j x h = refl
set_other (y ∷ p) zero zero x h = absurd (h refl)
set_other (y ∷ p) zero (suc j) x h = refl
set_other (y ∷ p) (suc i) zero x h = refl
set_other (y ∷ p) (suc i) (suc j) x h = set_other p i j x (λ e. h (ap suc e))

-- ---- places

length_placed : (is : List ℕ) (k : ℕ) (p : List ℕ) → length (placed_from is k p) ≡ length p
length_placed [] k p = refl
length_placed (i ∷ is) k p = length_placed is (suc k) (set p i k) ∙ length_set p i k

-- no number is there twice
abbrev Apart : List ℕ → Type 0
Apart is = (i j x : ℕ) → i < j → slice_get is i ≡ Some x → slice_get is j ≡ Some x → ⊥

kept : (is : List ℕ) (i k : ℕ) (p : List ℕ) → ((j : ℕ) → slice_get is j ≡ Some i → ⊥) → slice_get (placed_from is k p) i ≡ slice_get p i
kept [] i k p h = refl
kept (n ∷ is) i k p h = kept is i (suc k) (set p n k) (λ j. h (suc j)) ∙ set_other p n i k (λ e. h 0 (ap Some e))

placed_at : (is : List ℕ) (k : ℕ) (p : List ℕ) → Apart is → ((j i : ℕ) → slice_get is j ≡ Some i → i < length p) → (j i : ℕ) → slice_get is j ≡ Some i → slice_get (placed_from is k p) i ≡ Some (k + j)
placed_at [] k p apart below j i e = absurd (not_there e)
placed_at (n ∷ is) k p apart below zero i e =
    let s : n ≡ i = same_some e in
    kept is i (suc k) (set p n k) (λ j f. apart 0 (suc j) i (omega arith) e f)
    ∙ ap (λ q. slice_get (set p q k) i) s ∙ set_here p i k (below 0 i e) ∙ ap Some (let z : k ≡ k + 0 = omega arith in z)
placed_at (n ∷ is) k p apart below (suc j) i e =
    placed_at is (suc k) (set p n k) (λ a b x l f g. apart (suc a) (suc b) x (omega arith) f g)
    (λ a b f. subst (λ q. b < q) (sym (length_set p n k)) (below (suc a) b f)) j i e
    ∙ ap Some (let z : suc k + j ≡ k + suc j = omega arith in z)

-- ---- numbers

number_at : (k : ℕ) (ms : List Member) → Numbered k ms → (i : ℕ) (m : Member) → slice_get ms i ≡ Some m → m.number ≡ k + i
number_at k [] n i m e = absurd (not_there e)
number_at k (x ∷ ms) n zero m e = ap (λ q. q.number) (sym (same_some e)) ∙ n.0 ∙ (let z : k ≡ k + 0 = omega arith in z)
number_at k (x ∷ ms) n (suc i) m e = number_at (suc k) ms n.1 i m e ∙ (let z : suc k + i ≡ k + suc i = omega arith in z)

eqb_turned : (x y : ℕ) → eqb x y ≡ eqb y x
eqb_turned x y = elim (eqb_tells x y) [
  | inl a ↦ (let e = a.1 in subst (λ q. eqb x q ≡ eqb q x) e refl)
  | inr b ↦ b.0 ∙ sym (ne_eqb y x (λ e. b.1 (sym e)))
]

get_number : (ms : List Member) → Numbered 0 ms → (i d : ℕ) → i < length (numbers_in ms) → get_or (numbers_in ms) i d ≡ i
get_number ms n i d l =
    let f = found_at (numbers_in ms) i l in
    let m = map_from (λ q. q.number) ms i f.0 f.1 in
    get_or_from_slice_get (numbers_in ms) i f.0 d f.1 ∙ sym m.2 ∙ number_at 0 ms n i m.0 m.1 ∙ (let z : 0 + i ≡ i = omega arith in z)

distinct : (ms : List Member) → Numbered 0 ms → IsDistinct eqb (numbers_in ms)
distinct ms n = IsDistinct-from_apart eqb (numbers_in ms) (λ i j d a b.
    ne_eqb _ _ (λ e. (let f : i ≡ j = sym (get_number ms n i d (omega (arith, a, b))) ∙ e ∙ get_number ms n j d b in omega (arith, f, a))))

apart_of : (is : List ℕ) → IsDistinct eqb is → Apart is
apart_of is h i j x l e f =
    let b = slice_get_within is j x f in
    eqb-false _ _ (apart_from_distinct eqb is i j x h l b) (get_or_from_slice_get is i x x e ∙ sym (get_or_from_slice_get is j x x f))

pub standing : (o : List ℕ) (ms sorted : List Member) → Numbered 0 ms → IsPermutation ms sorted → ArePlacedAt (places_by (numbers_in sorted)) (numbers_in sorted) (encodings_of (map (placed_of o) ms)) (encodings_of (map (placed_of o) sorted))
standing o ms sorted n same =
    let q = numbers_in sorted in
    let p = places_by q in
    let home : (j : ℕ) (m : Member) → slice_get sorted j ≡ Some m → slice_get ms m.number ≡ Some m =
    at_all (λ m. slice_get ms m.number ≡ Some m) sorted
    (recursion_from_All (λ m. slice_get ms m.number ≡ Some m) sorted (All-permutation (λ m. slice_get ms m.number ≡ Some m) ms sorted same
    (All-from_recursion (λ m. slice_get ms m.number ≡ Some m) ms (all_at (λ m. slice_get ms m.number ≡ Some m) ms (λ i m e. ap (slice_get ms) (number_at 0 ms n i m e ∙ (let z : 0 + i ≡ i = omega arith in z)) ∙ e))))) in
    let seen : (i : ℕ) (m : Member) → slice_get ms i ≡ Some m → (j : ℕ) × (slice_get sorted j ≡ Some m) =
    at_all (λ m. (j : ℕ) × (slice_get sorted j ≡ Some m)) ms
    (recursion_from_All (λ m. (j : ℕ) × (slice_get sorted j ≡ Some m)) ms (All-permutation (λ m. (j : ℕ) × (slice_get sorted j ≡ Some m)) sorted ms (IsPermutation-sym ms sorted same)
    (All-from_recursion (λ m. (j : ℕ) × (slice_get sorted j ≡ Some m)) sorted (all_at (λ m. (j : ℕ) × (slice_get sorted j ≡ Some m)) sorted (λ i m e. (i, e)))))) in
    let many : length sorted ≡ length ms = length_permutation ms sorted same in
    let sizes : length q ≡ length sorted = length-map sorted (λ m. m.number) in
    let xs_many : length (encodings_of (map (placed_of o) ms)) ≡ length ms = length-map (map (placed_of o) ms) (λ p. p.octets) ∙ length-map ms (placed_of o) in
    let zs_many : length (encodings_of (map (placed_of o) sorted)) ≡ length sorted = length-map (map (placed_of o) sorted) (λ p. p.octets) ∙ length-map sorted (placed_of o) in
    let p_many : length p ≡ length q = length_placed q 0 (replicate (length q) 0) ∙ length-replicate (length q) 0 in
    let apart = apart_of q (IsDistinct-IsPermutation eqb eqb_turned (numbers_in ms) q (IsPermutation-map (λ m. m.number) ms sorted same) (distinct ms n)) in
    let back : (i j : ℕ) → slice_get q j ≡ Some i → slice_get p i ≡ Some j = λ i j e.
    placed_at q 0 (replicate (length q) 0) apart
    (λ a b f.
    let m = map_from (λ m. m.number) sorted a b f in
    let l = slice_get_within ms b m.0 (ap (slice_get ms) (sym m.2) ∙ home a m.0 m.1) in
    let r = length-replicate {A = ℕ} (length q) 0 in omega (arith, l, r, many, sizes)) j i e ∙ ap Some (let z : 0 + j ≡ j = omega arith in z) in
    let there : (i j : ℕ) → slice_get p i ≡ Some j → slice_get q j ≡ Some i = λ i j e.
    let l = slice_get_within p i j e in
    let f = found_at ms i (omega (arith, l, p_many, sizes, many)) in
    let s = seen i f.0 f.1 in
    let at : slice_get q s.0 ≡ Some i = map_to (λ m. m.number) sorted s.0 f.0 s.1 ∙ ap Some (number_at 0 ms n i f.0 f.1 ∙ (let z : 0 + i ≡ i = omega arith in z)) in
    let same_place : s.0 ≡ j = same_some (sym (back i s.0 at) ∙ e) in
    subst (λ k. slice_get q k ≡ Some i) same_place at in
    record {
      are_places = record { each_member = p_many ∙ sizes ∙ many ∙ sym xs_many; each_place = sizes ∙ many ∙ sym xs_many; there = there; back = back };
      as_many = zs_many ∙ many ∙ sym xs_many;
      each = λ i j e.
          let m = map_from (λ m. m.number) sorted j i (there i j e) in
          let h = ap (slice_get ms) (sym m.2) ∙ home j m.0 m.1 in
          map_to (λ p. p.octets) (map (placed_of o) sorted) j (placed_of o m.0) (map_to (placed_of o) sorted j m.0 m.1)
          ∙ sym (map_to (λ p. p.octets) (map (placed_of o) ms) i (placed_of o m.0) (map_to (placed_of o) ms i m.0 h));
    }
