-- A text with each quote twice, character by character.
use Rattle.std.proofs.Common.{arith, ◌≡◌, ℕ, ◌+◌, ◌≤◌, Bool, true, false, List, [], ◌∷◌, ◌++◌, refl, ap, ◌∙◌}
use Rattle.std.specs.Prelude.{◌/◌, ◌%◌, ◌==◌, nat_lt, cond}
use Rattle.std.specs.List.{AllByRecursion}
use Rattle.std.proofs.Math.Utf8.{encode}
use Rattle.std.proofs.lemmas.Bool.Decides.{nat_tests}
use Rattle.std.proofs.lemmas.Str.{encode_ascii}
use Rattle.value_text.specs.Print.{doubled}
use Rattle.value_text.proofs.Steps.{glued}

abbrev HasNoQuote : List ℕ → Type 0
HasNoQuote = AllByRecursion (λ x. (x == 34) ≡ false)

not_doubled : (xs r : List ℕ) → HasNoQuote xs → doubled (xs ++ r) ≡ xs ++ doubled r
not_doubled [] r n = refl
not_doubled (x ∷ xs) r n = rw n.0 (ap (λ l. x ∷ l) (not_doubled xs r n.1))

branches : (b : Bool) (xs ys : List ℕ) → HasNoQuote xs → HasNoQuote ys → HasNoQuote (cond b xs ys)
branches true xs ys p q = p
branches false xs ys p q = q

far : (k n : ℕ) → 128 ≤ k → (k + n == 34) ≡ false
far k n l = grind (arith, nat_tests)

one_octet : (a : ℕ) → (a == 34) ≡ false → HasNoQuote (a ∷ [])
one_octet a e = (e, tt)

more_octets : (a : ℕ) (xs : List ℕ) → (a == 34) ≡ false → HasNoQuote xs → HasNoQuote (a ∷ xs)
more_octets a xs e f = (e, f)

high : (n : ℕ) → HasNoQuote ((128 + n) ∷ [])
high n = one_octet (128 + n) (far 128 n (omega arith))

two : ℕ → List ℕ
two c = (192 + c / 64) ∷ (128 + c % 64) ∷ []

three : ℕ → List ℕ
three c = (224 + c / 4096) ∷ (128 + c / 64 % 64) ∷ (128 + c % 64) ∷ []

four : ℕ → List ℕ
four c = (240 + c / 262144) ∷ (128 + c / 4096 % 64) ∷ (128 + c / 64 % 64) ∷ (128 + c % 64) ∷ []

no_quote : (c : ℕ) → (c == 34) ≡ false → HasNoQuote (encode c)
unfolding encode two three four
no_quote c e = branches (nat_lt c 128) (c ∷ []) (cond (nat_lt c 2048) (two c) (cond (nat_lt c 65536) (three c) (four c))) (one_octet c e)
    (branches (nat_lt c 2048) (two c) (cond (nat_lt c 65536) (three c) (four c)) (more_octets (192 + c / 64) ((128 + c % 64) ∷ []) (far 192 (c / 64) (omega arith)) (high (c % 64)))
    (branches (nat_lt c 65536) (three c) (four c)
    (more_octets (224 + c / 4096) ((128 + c / 64 % 64) ∷ (128 + c % 64) ∷ []) (far 224 (c / 4096) (omega arith)) (more_octets (128 + c / 64 % 64) ((128 + c % 64) ∷ []) (far 128 (c / 64 % 64) (omega arith)) (high (c % 64))))
    (more_octets (240 + c / 262144) ((128 + c / 4096 % 64) ∷ (128 + c / 64 % 64) ∷ (128 + c % 64) ∷ []) (far 240 (c / 262144) (omega arith)) (more_octets (128 + c / 4096 % 64) ((128 + c / 64 % 64) ∷ (128 + c % 64) ∷ []) (far 128 (c / 4096 % 64) (omega arith))
    (more_octets (128 + c / 64 % 64) ((128 + c % 64) ∷ []) (far 128 (c / 64 % 64) (omega arith)) (high (c % 64)))))))

unequal : (c : ℕ) → (c ≡ 34 → ⊥) → (c == 34) ≡ false
unequal c n = grind (arith, nat_tests)

pub other_step : (c : ℕ) (s r out new total : List ℕ) → s ≡ encode c ++ r → (c ≡ 34 → ⊥) → out ++ doubled s ≡ total → new ≡ out ++ encode c → new ++ doubled r ≡ total
other_step c s r out new total e n f g = glued out (encode c) (doubled r) (doubled s) new total (ap doubled e ∙ not_doubled (encode c) r (no_quote c (unequal c n))) f g

pub quote_step : (c : ℕ) (s r out mid new total : List ℕ) → s ≡ encode c ++ r → c ≡ 34 → out ++ doubled s ≡ total → mid ≡ out ++ encode 34 → new ≡ mid ++ encode c → new ++ doubled r ≡ total
quote_step c s r out mid new total e n f g h =
    let a : encode c ≡ 34 ∷ [] = ap encode n ∙ encode_ascii 34 (omega arith) in
    let d : doubled s ≡ (34 ∷ []) ++ ((34 ∷ []) ++ doubled r) = ap doubled (e ∙ ap (λ l. l ++ r) a) in
    let m = glued out (34 ∷ []) ((34 ∷ []) ++ doubled r) (doubled s) mid total d f (g ∙ ap (λ l. out ++ l) (encode_ascii 34 (omega arith))) in
    glued mid (34 ∷ []) (doubled r) ((34 ∷ []) ++ doubled r) new total refl m (h ∙ ap (λ l. mid ++ l) a)
