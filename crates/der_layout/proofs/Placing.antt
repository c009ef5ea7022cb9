-- Members by their numbers, one by one.
use Rattle.std.proofs.Common.{◌≡◌, ℕ, zero, suc, ◌+◌, ◌<◌, ◌≤◌, List, [], ◌∷◌, ◌++◌, length, map, set, drop, get_or, refl, sym, ap, ◌∙◌, arith, append_assoc, append-nil}
use Rattle.std.proofs.lemmas.List.{length-map, map-set}
use Rattle.std.specs.Prelude.{replicate}
use Rattle.der_layout.specs.declared.table.Member.{Member}
use Rattle.der_layout.specs.Rows.{listed, numbers_in, placed_from, places_by}

-- the numbers of the members that are left
pub next_numbers : (ms : List Member) (i : ℕ) (m d : Member) → i < length ms → m ≡ get_or ms i d → numbers_in (drop i ms) ≡ m.number ∷ numbers_in (drop (i + 1) ms)
next_numbers [] i m d l e = absurd (omega (arith, l))
next_numbers (x ∷ ms) zero m d l e = ap (λ q. q.number ∷ numbers_in ms) (sym e) ∙ ap (λ q. m.number ∷ numbers_in (drop q (x ∷ ms))) (let z : 1 ≡ zero + 1 = omega arith in z)
next_numbers (x ∷ ms) (suc i) m d l e = next_numbers ms i m d (omega (arith, l)) e ∙ ap (λ q. m.number ∷ numbers_in (drop q (x ∷ ms))) (let z : suc (i + 1) ≡ suc i + 1 = omega arith in z)

pub none_left : (ms : List Member) (i : ℕ) → length ms ≤ i → numbers_in (drop i ms) ≡ []
none_left [] zero l = refl
none_left [] (suc i) l = refl
none_left (m ∷ ms) zero l = absurd (omega (arith, l))
none_left (m ∷ ms) (suc i) l = none_left ms i (omega (arith, l))

pub next_inverse : (ms : List Member) (i : ℕ) (m : Member) (old news all : List ℕ) → i < length ms → m ≡ get_or ms i m → news ≡ old ++ listed m.number ∷ []
    → old ++ map listed (numbers_in (drop i ms)) ≡ all → news ++ map listed (numbers_in (drop (i + 1) ms)) ≡ all
next_inverse ms i m old news all l e f h =
    ap (λ q. q ++ map listed (numbers_in (drop (i + 1) ms))) f ∙ append_assoc old (listed m.number ∷ []) (map listed (numbers_in (drop (i + 1) ms)))
    ∙ ap (λ q. old ++ map listed q) (sym (next_numbers ms i m m l e)) ∙ h

pub whole_inverse : (ms : List Member) (i : ℕ) (old all : List ℕ) → length ms ≤ i → old ++ map listed (numbers_in (drop i ms)) ≡ all → old ≡ all
whole_inverse ms i old all l h = sym (append-nil old) ∙ ap (λ q. old ++ map listed q) (sym (none_left ms i l)) ∙ h

-- the first members have got their places
pub record Filled (ms : List Member) (i : ℕ) (places : List ℕ) : Type 0 where
  pub exact : List ℕ
  pub are : places ≡ map listed exact
  pub rest : placed_from (numbers_in (drop i ms)) i exact ≡ places_by (numbers_in ms)

zeros_capped : (n : ℕ) → replicate n 0 ≡ map listed (replicate n 0)
zeros_capped zero = refl
zeros_capped (suc n) = ap (λ q. 0 ∷ q) (zeros_capped n)

pub first_places : (ms : List Member) (n : ℕ) (places : List ℕ) → n ≡ length ms → places ≡ replicate n 0 → Filled ms 0 places
first_places ms n places e f = record {
  exact = replicate (length (numbers_in ms)) 0;
  are = f ∙ ap (λ q. replicate q 0) (e ∙ sym (length-map ms (λ m. m.number))) ∙ zeros_capped (length (numbers_in ms));
  rest = refl;
}

pub next_places : (ms : List Member) (i : ℕ) (m d : Member) (old news : List ℕ) → i < length ms → m ≡ get_or ms i d → news ≡ set old m.number (listed i) → Filled ms i old → Filled ms (i + 1) news
next_places ms i m d old news l e f h =
    let z : suc i ≡ i + 1 = omega arith in
    record {
      exact = set h.exact m.number i;
      are = f ∙ ap (λ q. set q m.number (listed i)) h.are ∙ sym (map-set listed h.exact m.number i);
      rest = ap (λ q. placed_from (numbers_in (drop (i + 1) ms)) q (set h.exact m.number i)) (sym z) ∙ ap (λ q. placed_from q i h.exact) (sym (next_numbers ms i m d l e)) ∙ h.rest;
    }

pub whole_places : (ms : List Member) (i : ℕ) (places : List ℕ) → length ms ≤ i → Filled ms i places → places ≡ map listed (places_by (numbers_in ms))
whole_places ms i places l h = h.are ∙ ap (map listed) (ap (λ q. placed_from q i h.exact) (sym (none_left ms i l)) ∙ h.rest)
