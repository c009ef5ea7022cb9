-- Members that are in their order.
use Rattle.std.proofs.Common.{◌≡◌, ℕ, zero, suc, ◌+◌, ◌<◌, ◌≤◌, List, [], ◌∷◌, ◌++◌, length, take, drop, get_or, refl, sym, ap, ◌∙◌, arith, append_assoc}
use Rattle.std.proofs.lemmas.List.{take-append-drop}
use Rattle.der_layout.specs.declared.table.Member.{Member}
use Rattle.der_layout.specs.Tables.{span, spans}
use Rattle.der_layout.proofs.SpansOf.{none_left}

split : (xs : List ℕ) (i j : ℕ) → i ≤ j → take i xs ++ drop i (take j xs) ≡ take j xs
split xs zero j h = refl
split [] (suc i) zero h = absurd (omega (arith, h))
split [] (suc i) (suc j) h = refl
split (x ∷ xs) (suc i) zero h = absurd (omega (arith, h))
split (x ∷ xs) (suc i) (suc j) h = ap (λ q. x ∷ q) (split xs i j (omega (arith, h)))

-- a member that starts at a place adds its octets to those before it
one_more_in_place : (o : List ℕ) (m : Member) (at : ℕ) → m.start ≡ at → at ≤ m.end → take at o ++ span o m ≡ take m.end o
one_more_in_place o m at e l = ap (λ q. take at o ++ drop q (take m.end o)) e ∙ split o at m.end l

-- the first i members are in place, and end at a place: with the octets before them they are the octets up to it
abbrev pub InPlace : ℕ → List Member → ℕ → ℕ → Type 0
InPlace start ms i at = (o d : List ℕ) → take start o ++ (spans o ms ++ d) ≡ take at o ++ (spans o (drop i ms) ++ d)

pub none_in_place : (ms : List Member) (start : ℕ) → InPlace start ms 0 start
none_in_place ms start o d = refl

-- the members that are left, the first of which is looked up
first_left : (o : List ℕ) (ms : List Member) (i : ℕ) (m d : Member) → i < length ms → m ≡ get_or ms i d → spans o (drop i ms) ≡ span o m ++ spans o (drop (i + 1) ms)
first_left o [] i m d l e = absurd (omega (arith, l))
first_left o (x ∷ ms) zero m d l e = ap (λ q. span o q ++ spans o ms) (sym e) ∙ ap (λ q. span o m ++ spans o (drop q (x ∷ ms))) (let z : 1 ≡ zero + 1 = omega arith in z)
first_left o (x ∷ ms) (suc i) m d l e = first_left o ms i m d (omega (arith, l)) e ∙ ap (λ q. span o m ++ spans o (drop q (x ∷ ms))) (let z : suc (i + 1) ≡ suc i + 1 = omega arith in z)

pub next_in_place : (ms : List Member) (start i at : ℕ) (m d : Member) → i < length ms → m ≡ get_or ms i d → m.start ≡ at → at ≤ m.end → InPlace start ms i at → InPlace start ms (i + 1) m.end
next_in_place ms start i at m z l e s n h o d =
    let rest = spans o (drop (i + 1) ms) ++ d in
    h o d
    ∙ ap (λ q. take at o ++ (q ++ d)) (first_left o ms i m z l e)
    ∙ ap (λ q. take at o ++ q) (append_assoc (span o m) (spans o (drop (i + 1) ms)) d)
    ∙ sym (append_assoc (take at o) (span o m) rest)
    ∙ ap (λ q. q ++ rest) (one_more_in_place o m at s n)

pub all_in_place : (ms : List Member) (start i at next : ℕ) → length ms ≤ i → at ≡ next → InPlace start ms i at → (o : List ℕ) → take start o ++ (spans o ms ++ drop next o) ≡ o
all_in_place ms start i at next l e h o =
    h o (drop next o) ∙ ap (λ q. take at o ++ (q ++ drop next o)) (none_left o ms i l) ∙ ap (λ q. take q o ++ drop next o) e ∙ take-append-drop next o
