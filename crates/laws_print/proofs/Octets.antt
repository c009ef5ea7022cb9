-- The octets of texts are below 256.
use Rattle.std.proofs.Common.{arith, ◌≡◌, ℕ, ◌+◌, ◌/◌, ◌%◌, ◌<◌, Bool, true, false, ◌&&◌, List, [], ◌∷◌, ◌++◌, refl, subst}
use Rattle.std.specs.Prelude.{IsUtf8, nat_lt, cond}
use Rattle.std.specs.List.{AllByRecursion}
use Rattle.std.specs.Int.Digits.{AllBelowBase}
use Rattle.std.proofs.Math.Utf8.{encode, encodes, scalar, scalars, scalar_cases}
use Rattle.std.proofs.Common.{inl, inr}
use Rattle.std.proofs.lemmas.Bool.Decides.{nat_tests}
use Rattle.asn_base.specs.Names.{IsMember, is_first, is_later}

-- the code of a member of an alphabet
code_below : (alphabet : List ℕ) (c : ℕ) → AllByRecursion (λ c. c < 128) alphabet → IsMember c alphabet → c < 256
code_below [] c h m = elim m [ ]
code_below (a ∷ alphabet) c h is_first = omega (arith, h.0)
code_below (a ∷ alphabet) c h (is_later m) = code_below alphabet c h.1 m

pub codes_below : (alphabet o : List ℕ) → AllByRecursion (λ c. c < 128) alphabet → AllByRecursion (λ x. IsMember x alphabet) o → AllBelowBase 256 o
codes_below alphabet [] h a = tt
codes_below alphabet (c ∷ o) h a = (code_below alphabet c h a.0, codes_below alphabet o h a.1)

below_joined : (xs ys : List ℕ) → AllBelowBase 256 xs → AllBelowBase 256 ys → AllBelowBase 256 (xs ++ ys)
below_joined [] ys a b = b
below_joined (x ∷ xs) ys a b = (a.0, below_joined xs ys a.1 b)

by_test : (b : Bool) (xs ys : List ℕ) → (b ≡ true → AllBelowBase 256 xs) → (b ≡ false → AllBelowBase 256 ys) → AllBelowBase 256 (cond b xs ys)
by_test true xs ys f g = f refl
by_test false xs ys f g = g refl

below_is : (c n : ℕ) → nat_lt c n ≡ true → c < n
below_is c n e = grind (arith, nat_tests)

two : ℕ → List ℕ
two c = (192 + c / 64) ∷ (128 + c % 64) ∷ []

three : ℕ → List ℕ
three c = (224 + c / 4096) ∷ (128 + c / 64 % 64) ∷ (128 + c % 64) ∷ []

four : ℕ → List ℕ
four c = (240 + c / 262144) ∷ (128 + c / 4096 % 64) ∷ (128 + c / 64 % 64) ∷ (128 + c % 64) ∷ []

low : (c : ℕ) → 128 + c % 64 < 256
low c = omega arith

two_below : (c : ℕ) → c < 2048 → AllBelowBase 256 (two c)
unfolding two
two_below c l = (omega (arith, l), (low c, tt))

three_below : (c : ℕ) → c < 65536 → AllBelowBase 256 (three c)
unfolding three
three_below c l = (omega (arith, l), (low (c / 64), (low c, tt)))

four_below : (c : ℕ) → c < 1114112 → AllBelowBase 256 (four c)
unfolding four
four_below c l = (omega (arith, l), (low (c / 4096), (low (c / 64), (low c, tt))))

character_below : (c : ℕ) → c < 1114112 → AllBelowBase 256 (encode c)
unfolding encode two three four
character_below c l =
    by_test (nat_lt c 128) (c ∷ []) (cond (nat_lt c 2048) (two c) (cond (nat_lt c 65536) (three c) (four c)))
    (λ e. let h = below_is c 128 e in (omega (arith, h), tt))
    (λ _. by_test (nat_lt c 2048) (two c) (cond (nat_lt c 65536) (three c) (four c)) (λ e. two_below c (below_is c 2048 e))
    (λ _. by_test (nat_lt c 65536) (three c) (four c) (λ e. three_below c (below_is c 65536 e)) (λ _. four_below c l)))

scalar_below : (c : ℕ) → scalar c ≡ true → c < 1114112
scalar_below c e = elim (scalar_cases c e) [ inl l ↦ omega (arith, l) | inr h ↦ h.1 ]

both_first : (a b : Bool) → (a && b) ≡ true → a ≡ true
both_first true b e = refl
both_first false b e = absurd cc

both_second : (a b : Bool) → (a && b) ≡ true → b ≡ true
both_second true b e = e
both_second false b e = absurd cc

characters_below : (cs : List ℕ) → scalars cs ≡ true → AllBelowBase 256 (encodes cs)
characters_below [] e = tt
characters_below (c ∷ cs) e = below_joined (encode c) (encodes cs)
    (character_below c (scalar_below c (both_first (scalar c) (scalars cs) e)))
    (characters_below cs (both_second (scalar c) (scalars cs) e))

pub utf8_below : (o : List ℕ) → IsUtf8 o → AllBelowBase 256 o
utf8_below o u = subst (AllBelowBase 256) u.1.1 (characters_below u.0 u.1.0)
