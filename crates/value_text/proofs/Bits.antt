-- The bits of octets, of the last one not all.
use Rattle.std.proofs.Common.{arith, ◌≡◌, ℕ, suc, ◌+◌, ◌-◌, ◌*◌, ◌<◌, Bool, List, [], ◌∷◌, ◌++◌, length, drop, take, refl, sym, ap, ◌∙◌}
use Rattle.std.specs.Prelude.{flat_map, slice_index, if◌then◌else◌}
use Rattle.std.proofs.Math.Seq.{take-nil}
use Rattle.asn_base.specs.Abstract.{bits_in, bits_of_octet}
use Rattle.value_text.specs.Print.{bit_digits}
use Rattle.value_text.proofs.Steps.{drop_at, none_left, glued}

digits_joined : (xs ys : List Bool) → bit_digits (xs ++ ys) ≡ bit_digits xs ++ bit_digits ys
digits_joined [] ys = refl
digits_joined (x ∷ xs) ys = ap (λ l. (if x then 49 else 48) ∷ l) (digits_joined xs ys)

nil_right : {A : Type 0} (xs : List A) → xs ≡ xs ++ []
nil_right [] = refl
nil_right (x ∷ xs) = ap (λ q. x ∷ q) (nil_right xs)

last : (u o : ℕ) → bits_in u (o ∷ []) ≡ take (8 - u) (bits_of_octet o) ++ bits_in u []
last u o = nil_right (take (8 - u) (bits_of_octet o)) ∙ ap (λ l. take (8 - u) (bits_of_octet o) ++ l) (sym (take-nil (8 * 0 - u)))

take_eight : (m o : ℕ) (bs : List Bool) → take (suc (suc (suc (suc (suc (suc (suc (suc m)))))))) (bits_of_octet o ++ bs) ≡ take 8 (bits_of_octet o) ++ take m bs
take_eight m o bs = refl

more : (u o p : ℕ) (os : List ℕ) → u < 8 → bits_in u (o ∷ p ∷ os) ≡ take 8 (bits_of_octet o) ++ bits_in u (p ∷ os)
more u o p os l =
    let n : 8 * length (o ∷ p ∷ os) - u ≡ suc (suc (suc (suc (suc (suc (suc (suc (8 * length (p ∷ os) - u)))))))) = omega (arith, l) in
    ap (λ k. take k (flat_map bits_of_octet (o ∷ p ∷ os))) n ∙ take_eight (8 * length (p ∷ os) - u) o (flat_map bits_of_octet (p ∷ os))

module _ (os : List ℕ) (u i count : ℕ) (out new total : List ℕ) (lt : i < length os) (invariant : out ++ bit_digits (bits_in u (drop i os)) ≡ total) (adds : new ≡ out ++ bit_digits (take count (bits_of_octet (slice_index os i)))) where
  front : drop i os ≡ slice_index os i ∷ drop (i + 1) os
  front = drop_at os i (slice_index os i) 0 lt refl

  pub at_last : i + 1 ≡ length os → count ≡ 8 - u → new ++ bit_digits (bits_in u (drop (i + 1) os)) ≡ total
  at_last e f =
      let r : drop (i + 1) os ≡ [] = none_left os (i + 1) (omega (arith, e)) in
      let d : drop i os ≡ slice_index os i ∷ [] = front ∙ ap (λ l. slice_index os i ∷ l) r in
      let w : bit_digits (bits_in u (drop i os)) ≡ bit_digits (take count (bits_of_octet (slice_index os i))) ++ bit_digits (bits_in u (drop (i + 1) os)) =
      ap (λ l. bit_digits (bits_in u l)) d ∙ ap bit_digits (last u (slice_index os i)) ∙ digits_joined (take (8 - u) (bits_of_octet (slice_index os i))) (bits_in u [])
      ∙ ap (λ k. bit_digits (take k (bits_of_octet (slice_index os i))) ++ bit_digits (bits_in u [])) (sym f)
      ∙ ap (λ l. bit_digits (take count (bits_of_octet (slice_index os i))) ++ bit_digits (bits_in u l)) (sym r) in
      glued out (bit_digits (take count (bits_of_octet (slice_index os i)))) (bit_digits (bits_in u (drop (i + 1) os))) (bit_digits (bits_in u (drop i os))) new total w invariant adds

  pub before_last : u < 8 → i + 1 < length os → count ≡ 8 → new ++ bit_digits (bits_in u (drop (i + 1) os)) ≡ total
  before_last few l f =
      let p = slice_index os (i + 1) in
      let r : drop (i + 1) os ≡ p ∷ drop ((i + 1) + 1) os = drop_at os (i + 1) p 0 l refl in
      let d : drop i os ≡ slice_index os i ∷ p ∷ drop ((i + 1) + 1) os = front ∙ ap (λ l. slice_index os i ∷ l) r in
      let w : bit_digits (bits_in u (drop i os)) ≡ bit_digits (take count (bits_of_octet (slice_index os i))) ++ bit_digits (bits_in u (drop (i + 1) os)) =
      ap (λ l. bit_digits (bits_in u l)) d ∙ ap bit_digits (more u (slice_index os i) p (drop ((i + 1) + 1) os) few)
      ∙ digits_joined (take 8 (bits_of_octet (slice_index os i))) (bits_in u (p ∷ drop ((i + 1) + 1) os))
      ∙ ap (λ k. bit_digits (take k (bits_of_octet (slice_index os i))) ++ bit_digits (bits_in u (p ∷ drop ((i + 1) + 1) os))) (sym f)
      ∙ ap (λ l. bit_digits (take count (bits_of_octet (slice_index os i))) ++ bit_digits (bits_in u l)) (sym r) in
      glued out (bit_digits (take count (bits_of_octet (slice_index os i)))) (bit_digits (bits_in u (drop (i + 1) os))) (bit_digits (bits_in u (drop i os))) new total w invariant adds
