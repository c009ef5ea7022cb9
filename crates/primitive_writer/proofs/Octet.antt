-- The last octet of bits: its cleared bits, and its end.
use Rattle.std.proofs.Common.{arith, ◌≡◌, ℕ, ◌-◌, ◌*◌, ◌/◌, ◌<◌, Bool, false, [], ◌∷◌, ◌++◌, take, replicate, ap, sym, ◌∙◌}
use Rattle.std.specs.Prelude.{◌==◌}
use Rattle.asn_base.specs.Abstract.{bits_of_octet}

bit_same : {x y : ℕ} → x ≡ y → (x == 1) ≡ (y == 1)
bit_same e = ap (λ q. q == 1) e

bit_none : {x : ℕ} → x ≡ 0 → (x == 1) ≡ false
bit_none e = ap (λ q. q == 1) e

eight_cons : {a b c d e f g h p q r s t u v w : Bool} → p ≡ a → q ≡ b → r ≡ c → s ≡ d → t ≡ e → u ≡ f → v ≡ g → w ≡ h → (p ∷ q ∷ r ∷ s ∷ t ∷ u ∷ v ∷ w ∷ []) ≡ (a ∷ b ∷ c ∷ d ∷ e ∷ f ∷ g ∷ h ∷ [])
eight_cons i j k l m n o p = cc

pub cleared_1 : (x n : ℕ) → n ≡ 1 → x < 256 → bits_of_octet (x / 2 * 2) ≡ take (8 - n) (bits_of_octet x) ++ replicate n false
cleared_1 x n e l = eight_cons (bit_same (omega arith)) (bit_same (omega arith)) (bit_same (omega arith)) (bit_same (omega arith)) (bit_same (omega arith)) (bit_same (omega arith)) (bit_same (omega arith)) (bit_none (omega arith)) ∙ ap (λ k. take (8 - k) (bits_of_octet x) ++ replicate k false) (sym e)

pub cleared_2 : (x n : ℕ) → n ≡ 2 → x < 256 → bits_of_octet (x / 4 * 4) ≡ take (8 - n) (bits_of_octet x) ++ replicate n false
cleared_2 x n e l = eight_cons (bit_same (omega arith)) (bit_same (omega arith)) (bit_same (omega arith)) (bit_same (omega arith)) (bit_same (omega arith)) (bit_same (omega arith)) (bit_none (omega arith)) (bit_none (omega arith)) ∙ ap (λ k. take (8 - k) (bits_of_octet x) ++ replicate k false) (sym e)

pub cleared_3 : (x n : ℕ) → n ≡ 3 → x < 256 → bits_of_octet (x / 8 * 8) ≡ take (8 - n) (bits_of_octet x) ++ replicate n false
cleared_3 x n e l = eight_cons (bit_same (omega arith)) (bit_same (omega arith)) (bit_same (omega arith)) (bit_same (omega arith)) (bit_same (omega arith)) (bit_none (omega arith)) (bit_none (omega arith)) (bit_none (omega arith)) ∙ ap (λ k. take (8 - k) (bits_of_octet x) ++ replicate k false) (sym e)
