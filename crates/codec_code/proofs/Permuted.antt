-- A permutation as insertions.
use Rattle.std.proofs.Common.{◌≡◌, ℕ, zero, suc, ◌+◌, ◌<◌, List, [], ◌∷◌, length, refl, arith, length-append}
use Rattle.std.specs.Prelude.{slice_set, slice_index_or}
use Rattle.std.specs.List.{swap, concat, AllByRecursion}
use Rattle.std.specs.List.Sorted.{IsPermutation}
use Rattle.std.proofs.lemmas.List.Sorted.{IsPermutation-keeps, IsPermutation-map, All-permutation}
use Rattle.std.proofs.lemmas.List.Elements.{All-from_recursion, recursion_from_All}
use Rattle.encodings.specs.Orders.{Permutes, permutes_none, permutes_more, EncodingInserted, here, there}
use Rattle.codec_code.specs.Events.{SetMember, encodings_of}

record Both (P Q : List (List ℕ) → Type 0) : Type 0 where
  it : List (List ℕ)
  one : P it
  two : Q it

exchange : {x y : List ℕ} {a b c : List (List ℕ)} → EncodingInserted x a b → EncodingInserted y b c → Both (EncodingInserted y a) (λ d. EncodingInserted x d c)
exchange {x} {y} {a} i here = record { it = y ∷ a; one = here; two = there i }
exchange here (there {ys = c} j) = record { it = c; one = j; two = here }
exchange (there {y = z} i) (there j) = let p = exchange i j in record { it = z ∷ p.it; one = there p.one; two = there p.two }

pull : {x : List ℕ} {ys l m : List (List ℕ)} → EncodingInserted x ys l → Permutes l m → Both (Permutes ys) (λ d. EncodingInserted x d m)
pull here (permutes_more {ys = d} q i) = record { it = d; one = q; two = i }
pull (there {y = y} i) (permutes_more q j) =
    let p = pull i q in
    let e = exchange p.two j in
    record { it = e.it; one = permutes_more p.one e.one; two = e.two }

permutes_both : {xs l m : List (List ℕ)} → Permutes xs l → Permutes l m → Permutes xs m
permutes_both permutes_none q = q
permutes_both (permutes_more p i) q = let e = pull i q in permutes_more (permutes_both p e.one) e.two

permutes_same : (xs : List (List ℕ)) → Permutes xs xs
permutes_same [] = permutes_none
permutes_same (x ∷ xs) = permutes_more (permutes_same xs) here

-- an element to the front, and another one in its place
to_front : (x : List ℕ) (l : List (List ℕ)) (j : ℕ) (d : List ℕ) → j < length l → Permutes (x ∷ l) (slice_index_or l j d ∷ slice_set l j x)
to_front x [] j d h = absurd (omega arith)
to_front x (b ∷ l) zero d h = permutes_more (permutes_same (b ∷ l)) (there here)
to_front x (b ∷ l) (suc j) d h =
    let p = to_front x l j d (omega arith) in
    permutes_both (permutes_more (permutes_same (b ∷ l)) (there here)) (permutes_both (permutes_more p here) (permutes_more (permutes_same _) (there here)))

swapped : (d : List ℕ) (l : List (List ℕ)) (i j : ℕ) → i < length l → j < length l → Permutes l (slice_set (slice_set l i (slice_index_or l j d)) j (slice_index_or l i d))
swapped d [] i j g h = absurd (omega arith)
swapped d (x ∷ l) zero zero g h = permutes_same (x ∷ l)
swapped d (x ∷ l) zero (suc j) g h = to_front x l j d (omega arith)
swapped d (x ∷ l) (suc i) zero g h = to_front x l i d (omega arith)
swapped d (x ∷ l) (suc i) (suc j) g h = permutes_more (swapped d l i j (omega arith) (omega arith)) here

swap_permutes : (l : List (List ℕ)) (i j : ℕ) → i < length l → j < length l → Permutes l (swap l i j)
swap_permutes [] i j g h = absurd (omega arith)
swap_permutes (d ∷ l) i j g h = swapped d (d ∷ l) i j g h

pub permutes_from : (ps qs : List SetMember) → IsPermutation ps qs → Permutes (encodings_of ps) (encodings_of qs)
permutes_from ps qs h = IsPermutation-keeps (encodings_of ps) (λ l. Permutes (encodings_of ps) l) (permutes_same (encodings_of ps)) (λ l i j g k p. permutes_both p (swap_permutes l i j g k)) (encodings_of qs) (IsPermutation-map (λ p. p.octets) ps qs h)

pub all_from : (P : SetMember → Type 0) (ps qs : List SetMember) → IsPermutation ps qs → AllByRecursion P ps → AllByRecursion P qs
all_from P ps qs h a = recursion_from_All P qs (All-permutation P ps qs h (All-from_recursion P ps a))

inserted_length : {x : List ℕ} {ys zs : List (List ℕ)} → EncodingInserted x ys zs → length (concat zs) ≡ length x + length (concat ys)
inserted_length (here {x = x} {xs = xs}) = length-append x (concat xs)
inserted_length (there {x = x} {y = y} {xs = xs} {ys = ys} i) =
    let e = inserted_length i in
    let f = length-append y (concat ys) in
    let g = length-append y (concat xs) in omega (arith, e, f, g)

pub permuted_length : {xs ys : List (List ℕ)} → Permutes xs ys → length (concat xs) ≡ length (concat ys)
permuted_length permutes_none = refl
permuted_length (permutes_more {x = x} {xs = xs} {ys = ys} {zs = zs} p i) =
    let e = permuted_length p in
    let f = inserted_length i in
    let g = length-append x (concat xs) in omega (arith, e, f, g)
