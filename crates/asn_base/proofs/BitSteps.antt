-- Bits by their places.
use Rattle.std.proofs.Common.{arith, ◌≡◌, ℕ, zero, suc, ◌+◌, ◌-◌, ◌*◌, ◌/◌, ◌%◌, ◌<◌, ◌≤◌, Bool, false, List, [], ◌∷◌, ◌++◌, length, take, get_or, refl, sym, ap, ◌∙◌}
use Rattle.std.specs.Prelude.{◌⊎◌}
use Rattle.std.proofs.Common.{inl, inr}
use Rattle.std.specs.List.{flat_map}
use Rattle.asn_base.specs.Abstract.{bits_of_octet}

first_eight : (x : ℕ) (bs : List Bool) (k : ℕ) → k < 8 → get_or (bits_of_octet x ++ bs) k false ≡ get_or (bits_of_octet x) k false
first_eight x bs zero h = refl
first_eight x bs (suc zero) h = refl
first_eight x bs (suc (suc zero)) h = refl
first_eight x bs (suc (suc (suc zero))) h = refl
first_eight x bs (suc (suc (suc (suc zero)))) h = refl
first_eight x bs (suc (suc (suc (suc (suc zero))))) h = refl
first_eight x bs (suc (suc (suc (suc (suc (suc zero)))))) h = refl
first_eight x bs (suc (suc (suc (suc (suc (suc (suc zero))))))) h = refl
first_eight x bs (suc (suc (suc (suc (suc (suc (suc (suc k)))))))) h = absurd (omega arith)

past_eight : (x : ℕ) (bs : List Bool) (m n : ℕ) → n ≡ suc (suc (suc (suc (suc (suc (suc (suc m))))))) → get_or (bits_of_octet x ++ bs) n false ≡ get_or bs m false
past_eight x bs m n e = ap (λ i. get_or (bits_of_octet x ++ bs) i false) e

in_octets : (o : List ℕ) (j k : ℕ) → k < 8 → j < length o → get_or (flat_map bits_of_octet o) (8 * j + k) false ≡ get_or (bits_of_octet (get_or o j 0)) k false
in_octets [] j k h l = absurd (omega arith)
in_octets (x ∷ o) zero k h l = ap (λ i. get_or (bits_of_octet x ++ flat_map bits_of_octet o) i false) (let e : 8 * 0 + k ≡ k = omega arith in e) ∙ first_eight x (flat_map bits_of_octet o) k h
in_octets (x ∷ o) (suc j) k h l =
    past_eight x (flat_map bits_of_octet o) (8 * j + k) (8 * suc j + k) (omega arith)
    ∙ in_octets o j k h (omega arith)

in_front : (bs : List Bool) (n i : ℕ) → i < n → get_or (take n bs) i false ≡ get_or bs i false
in_front [] zero i h = refl
in_front [] (suc n) i h = refl
in_front (b ∷ bs) zero i h = absurd (omega arith)
in_front (b ∷ bs) (suc n) zero h = refl
in_front (b ∷ bs) (suc n) (suc i) h = in_front bs n i (omega arith)

-- the bit at a place of an octet
pub bit_at : (o : List ℕ) (unused j k : ℕ) → k < 8 → j < length o → 8 * j + k < 8 * length o - unused → get_or (take (8 * length o - unused) (flat_map bits_of_octet o)) (8 * j + k) false ≡ get_or (bits_of_octet (get_or o j 0)) k false
bit_at o unused j k h l m = in_front (flat_map bits_of_octet o) (8 * length o - unused) (8 * j + k) m ∙ in_octets o j k h l

-- after the end there are zeros
pub behind : (bs : List Bool) (i : ℕ) → length bs ≤ i → get_or bs i false ≡ false
behind [] i h = refl
behind (b ∷ bs) zero h = absurd (omega arith)
behind (b ∷ bs) (suc i) h = behind bs i (omega arith)

-- two with as many bits, the same at each place
pub all_same : (a b : List Bool) → length a ≡ length b → ((i : ℕ) → get_or a i false ≡ get_or b i false) → a ≡ b
all_same [] [] e f = refl
all_same [] (y ∷ b) e f = absurd (omega arith)
all_same (x ∷ a) [] e f = absurd (omega arith)
all_same (x ∷ a) (y ∷ b) e f = let g = all_same a b (omega arith) (λ i. f (suc i)) in let h : x ≡ y = f 0 in cc

-- each octet up to n is the same, and n octets have all bits
pub all_octets : (a b : List Bool) (n : ℕ) → length a ≤ 8 * n → length b ≤ 8 * n → ((j : ℕ) → j < n → (k : ℕ) → k < 8 → get_or a (8 * j + k) false ≡ get_or b (8 * j + k) false) → (i : ℕ) → get_or a i false ≡ get_or b i false
all_octets a b n la lb f i = elim (below_or i (8 * n)) [ inl l ↦ within l | inr l ↦ behind a i (omega arith) ∙ sym (behind b i (omega arith)) ]
  where
    below_or : (i n : ℕ) → (i < n) ⊎ (n ≤ i)
    below_or i zero = inr (omega arith)
    below_or zero (suc n) = inl (omega arith)
    below_or (suc i) (suc n) = elim (below_or i n) [ inl l ↦ inl (omega arith) | inr l ↦ inr (omega arith) ]

    within : i < 8 * n → get_or a i false ≡ get_or b i false
    within l =
        let at : 8 * (i / 8) + i % 8 ≡ i = omega arith in
        sym (ap (λ q. get_or a q false) at) ∙ f (i / 8) (omega arith) (i % 8) (omega arith) ∙ ap (λ q. get_or b q false) at
