-- Encodings at places that are a permutation are the same encodings in some order.
use Rattle.std.proofs.Common.{arith, ◌≡◌, ℕ, zero, suc, ◌<◌, List, [], ◌∷◌, length, map, refl, sym, ap, ◌∙◌}
use Rattle.std.specs.Prelude.{Option, Some, None, slice_get}
use Rattle.std.specs.List.{AllByRecursion}
use Rattle.encodings.specs.Orders.{EncodingInserted, here, there, Permutes, permutes_none, permutes_more}
use Rattle.encodings.specs.Account.{ArePlacedAt}

abbrev pub some_or : {A : Type 0} → A → Option A → A
some_or d None = d
some_or d (Some x) = x

-- the place k without place j
abbrev lower : ℕ → ℕ → ℕ
lower zero zero = zero
lower zero (suc k) = k
lower (suc j) zero = zero
lower (suc j) (suc k) = suc (lower j k)

lower_back : (j k l : ℕ) → (k ≡ j → ⊥) → (l ≡ j → ⊥) → lower j k ≡ lower j l → k ≡ l
lower_back zero zero l a b e = absurd (a refl)
lower_back zero (suc k) zero a b e = absurd (b refl)
lower_back zero (suc k) (suc l) a b e = ap suc e
lower_back (suc j) zero zero a b e = refl
lower_back (suc j) zero (suc l) a b e = absurd (omega arith)
lower_back (suc j) (suc k) zero a b e = absurd (omega arith)
lower_back (suc j) (suc k) (suc l) a b e =
    ap suc (lower_back j k l (λ f. a (ap suc f)) (λ f. b (ap suc f)) (let f : lower j k ≡ lower j l = omega arith in f))

-- zs without its element at place j
record Without (j : ℕ) (x : List ℕ) (zs : List (List ℕ)) : Type 0 where
  rest : List (List ℕ)
  at : EncodingInserted x rest zs
  others : (k : ℕ) → (k ≡ j → ⊥) → slice_get rest (lower j k) ≡ slice_get zs k
  fewer : length zs ≡ suc (length rest)

without : (j : ℕ) (x : List ℕ) (zs : List (List ℕ)) → slice_get zs j ≡ Some x → Without j x zs
without zero x [] e = absurd (cc)
without (suc j) x [] e = absurd (cc)
without zero x (z ∷ zs) e = first (ap (some_or z) e)
  where
    others : (k : ℕ) → (k ≡ zero → ⊥) → slice_get zs (lower zero k) ≡ slice_get (z ∷ zs) k
    others zero a = absurd (a refl)
    others (suc k) a = refl

    first : z ≡ x → Without zero x (z ∷ zs)
    first f = record { rest = zs; at = rw f here; others = others; fewer = refl }
without (suc j) x (z ∷ zs) e =
    let r = without j x zs e in
    record { rest = z ∷ r.rest; at = there r.at; others = others r; fewer = ap suc r.fewer }
  where
    others : (r : Without j x zs) (k : ℕ) → (k ≡ suc j → ⊥)
        → slice_get (z ∷ r.rest) (lower (suc j) k) ≡ slice_get (z ∷ zs) k
    others r zero a = refl
    others r (suc k) a = r.others k (λ f. a (ap suc f))

-- each at its place, no two at one
data Placed : List ℕ → List (List ℕ) → List (List ℕ) → Type 0 where
  placed_none : {zs : List (List ℕ)} → Placed [] [] zs
  placed_more : {j : ℕ} {p : List ℕ} {x : List ℕ} {xs zs : List (List ℕ)} → slice_get zs j ≡ Some x
      → AllByRecursion (λ k. k ≡ j → ⊥) p → Placed p xs zs → Placed (j ∷ p) (x ∷ xs) zs

others_apart : (j k : ℕ) (p : List ℕ) → (k ≡ j → ⊥) → AllByRecursion (λ l. l ≡ j → ⊥) p
    → AllByRecursion (λ l. l ≡ k → ⊥) p → AllByRecursion (λ l. l ≡ lower j k → ⊥) (map (lower j) p)
others_apart j k [] n a b = tt
others_apart j k (l ∷ p) n a b = ((λ e. b.0 (lower_back j l k a.0 n e)), others_apart j k p n a.1 b.1)

placed_rest : {j : ℕ} {x : List ℕ} {p : List ℕ} {xs zs : List (List ℕ)} (w : Without j x zs)
    → AllByRecursion (λ k. k ≡ j → ⊥) p → Placed p xs zs → Placed (map (lower j) p) xs w.rest
placed_rest w a placed_none = placed_none
placed_rest {j} w a (placed_more {j = k} {p = p} e b r) = placed_more (w.others k a.0 ∙ e)
    (others_apart j k p a.0 a.1 b) (placed_rest w a.1 r)

permuted : (xs p : List (List ℕ)) (q : List ℕ) → Placed q xs p → length p ≡ length xs → Permutes xs p
permuted [] [] q r l = permutes_none
permuted [] (z ∷ zs) q r l = absurd (omega arith)
permuted (x ∷ xs) zs [] r l = elim r [ ]
permuted (x ∷ xs) zs (j ∷ p) (placed_more e a r) l =
    let w = without j x zs e in
    permutes_more (permuted xs w.rest (map (lower j) p) (placed_rest w a r) (let f = w.fewer in omega arith)) w.at

all_by_place : (P : ℕ → Type 0) (p : List ℕ) → ((i k : ℕ) → slice_get p i ≡ Some k → P k) → AllByRecursion P p
all_by_place P [] h = tt
all_by_place P (k ∷ p) h = (h 0 k refl, all_by_place P p (λ i l e. h (suc i) l e))

abbrev OneToOne : List ℕ → Type 0
OneToOne p = (i k j : ℕ) → slice_get p i ≡ Some j → slice_get p k ≡ Some j → i ≡ k

placed : (p : List ℕ) (xs zs : List (List ℕ)) → length p ≡ length xs → OneToOne p
    → ((i j : ℕ) → slice_get p i ≡ Some j → slice_get zs j ≡ slice_get xs i) → Placed p xs zs
placed [] [] zs l one h = placed_none
placed [] (x ∷ xs) zs l one h = absurd (omega arith)
placed (j ∷ p) [] zs l one h = absurd (omega arith)
placed (j ∷ p) (x ∷ xs) zs l one h =
    placed_more (h 0 j refl) (all_by_place (λ k. k ≡ j → ⊥) p (λ i k e f. apart i (e ∙ ap Some f)))
    (placed p xs zs (let e = l in omega arith) (λ i k m e f. (let g = one (suc i) (suc k) m e f in omega arith))
    (λ i k e. h (suc i) k e))
  where
    apart : (i : ℕ) → slice_get p i ≡ Some j → ⊥
    apart i e = let g = one 0 (suc i) j refl e in omega arith

pub same_some : {i k : ℕ} → Some i ≡ Some k → i ≡ k
same_some {i} e = ap (some_or i) e

pub placing_permutes : {p q : List ℕ} {xs zs : List (List ℕ)} → ArePlacedAt p q xs zs → Permutes xs zs
placing_permutes {p} {q} {xs} {zs} a =
    let r = a.are_places in
    permuted xs zs p (placed p xs zs r.each_member (λ i k j e f. same_some (sym (r.there i j e) ∙ r.there k j f))
    a.each) a.as_many

same_lists : (xs ys : List (List ℕ)) → length ys ≡ length xs
    → ((i : ℕ) → i < length xs → slice_get ys i ≡ slice_get xs i) → ys ≡ xs
same_lists [] [] l h = refl
same_lists [] (y ∷ ys) l h = absurd (omega arith)
same_lists (x ∷ xs) [] l h = absurd (omega arith)
same_lists (x ∷ xs) (y ∷ ys) l h =
    let e : y ≡ x = ap (some_or y) (h 0 (omega arith)) in
    let f : ys ≡ xs = same_lists xs ys (omega arith) (λ i b. h (suc i) (omega arith)) in
    cc

found_at : (p : List ℕ) (j : ℕ) → j < length p → (i : ℕ) × (slice_get p j ≡ Some i)
found_at [] j h = absurd (omega arith)
found_at (i ∷ p) zero h = (i, refl)
found_at (i ∷ p) (suc j) h = found_at p j (omega arith)

-- places determine the order
pub one_placing : {p q : List ℕ} {xs zs ys : List (List ℕ)} → ArePlacedAt p q xs zs → ArePlacedAt p q xs ys → ys ≡ zs
one_placing {p} {q} {xs} {zs} {ys} a b =
    same_lists zs ys (b.as_many ∙ sym a.as_many)
    (λ j h. (let f = found_at q j (let l = a.as_many in let m = a.are_places.each_place in omega arith) in
    let e = a.are_places.back f.0 j f.1 in
    b.each f.0 j e ∙ sym (a.each f.0 j e)))
