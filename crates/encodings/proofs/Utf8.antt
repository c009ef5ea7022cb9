-- The octets of UTF-8 are below 256.
use Rattle.std.proofs.Common.{arith, ◌≡◌, ℕ, ◌+◌, ◌/◌, ◌<◌, ⊎_elim, Bool, true, false, cond, List, [], ◌∷◌, ◌++◌, refl, subst}
use Rattle.std.proofs.lemmas.Bool.Decides.{nat_tests}
use Rattle.std.proofs.Math.Utf8.{encode, encodes, scalar, scalars, scalar_cases, next}
use Rattle.std.specs.Prelude.{IsUtf8, nat_lt, ◌&&◌}
use Rattle.std.specs.Int.Digits.{AllBelowBase}

below_append : (xs ys : List ℕ) → AllBelowBase 256 xs → AllBelowBase 256 ys → AllBelowBase 256 (xs ++ ys)
below_append [] ys a b = b
below_append (x ∷ xs) ys a b = (a.0, below_append xs ys a.1 b)

encode_below : (c : ℕ) → c < 1114112 → AllBelowBase 256 (encode c)
unfolding encode
encode_below c l = by (nat_lt c 128) (nat_lt c 2048) (nat_lt c 65536) refl refl refl
  where
    by : (x y z : Bool) → nat_lt c 128 ≡ x → nat_lt c 2048 ≡ y → nat_lt c 65536 ≡ z → AllBelowBase 256 (cond x (c ∷ []) (cond y ((192 + c / 64) ∷ next c ∷ []) (cond z ((224 + c / 4096) ∷ next (c / 64) ∷ next c ∷ []) ((240 + c / 262144) ∷ next (c / 4096) ∷ next (c / 64) ∷ next c ∷ []))))
    by true y z p q r = ((let h : c < 128 = grind (arith, nat_tests) in omega arith), tt)
    by false true z p q r = ((let h : c < 2048 = grind (arith, nat_tests) in omega arith), (omega arith, tt))
    by false false true p q r = ((let h : c < 65536 = grind (arith, nat_tests) in omega arith), (omega arith, (omega arith, tt)))
    by false false false p q r = (omega arith, (omega arith, (omega arith, (omega arith, tt))))

scalar_small : (c : ℕ) → scalar c ≡ true → c < 1114112
scalar_small c e = ⊎_elim (λ h. omega arith) (λ h. h.1) (scalar_cases c e)

both_true : (a b : Bool) → (a && b) ≡ true → (a ≡ true) × (b ≡ true)
both_true true b e = (refl, e)
both_true false b e = absurd (cc)

encodes_below : (cs : List ℕ) → scalars cs ≡ true → AllBelowBase 256 (encodes cs)
encodes_below [] e = tt
encodes_below (c ∷ cs) e =
    let p = both_true (scalar c) (scalars cs) e in
    below_append (encode c) (encodes cs) (encode_below c (scalar_small c p.0)) (encodes_below cs p.1)

pub utf8_octets : (o : List ℕ) → IsUtf8 o → AllBelowBase 256 o
utf8_octets o u = subst (AllBelowBase 256) u.1.1 (encodes_below u.0 u.1.0)
