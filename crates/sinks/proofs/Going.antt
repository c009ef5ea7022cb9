-- Octets that go out part by part.
use Rattle.std.proofs.Common.{◌≡◌, ℕ, zero, suc, ◌+◌, ◌-◌, ◌≤◌, List, [], ◌∷◌, ◌++◌, length, take, drop, refl, sym, ap, subst, ◌∙◌, arith}
use Rattle.std.specs.Prelude.{Option}
use Rattle.std.proofs.lemmas.Grind.{common_steps}
use Rattle.std.specs.Io.KnownBytes.{Appends}
use Rattle.std.proofs.KnownBytes.{Appends-nil, Appends-trans}

take_rest : (xs : List ℕ) (n : ℕ) → take (length xs - n) (drop n xs) ≡ drop n xs
take_rest xs n = grind (arith, common_steps)

take_none : (n : ℕ) → take {A = ℕ} n [] ≡ []
take_none zero = refl
take_none (suc n) = refl

take_more : (xs : List ℕ) (m n : ℕ) → take m xs ++ take n (drop m xs) ≡ take (m + n) xs
take_more xs zero n = ap (λ k. take k xs) (let e : n ≡ 0 + n = omega arith in e)
take_more [] (suc m) n = take_none n ∙ sym (take_none (suc m + n))
take_more (x ∷ xs) (suc m) n = ap (λ q. x ∷ q) (take_more xs m n) ∙ ap (λ k. take k (x ∷ xs)) (let e : suc (m + n) ≡ suc m + n = omega arith in e)

length_rest : (xs : List ℕ) (m n : ℕ) → m ≤ length xs → n ≤ length (drop m xs) → m + n ≤ length xs
length_rest xs m n h k = grind (arith, common_steps)

-- the first octets have gone out
pub record Gone (a b : Option (List ℕ)) (xs : List ℕ) (at : ℕ) : Type 0 where
  pub within : at ≤ length xs
  pub taken : Appends a b (take at xs)

pub gone_none : (a : Option (List ℕ)) (xs : List ℕ) → Gone a a xs 0
gone_none a xs = record { within = omega arith; taken = Appends-nil a }

pub gone_more : (a b c : Option (List ℕ)) (xs : List ℕ) (at n : ℕ) → Gone a b xs at → n ≤ length (take (length xs - at) (drop at xs)) → Appends b c (take n (take (length xs - at) (drop at xs))) → Gone a c xs (at + n)
gone_more a b c xs at n g h f =
    let r = take_rest xs at in
    record {
      within = length_rest xs at n g.within (subst (λ q. n ≤ length q) r h);
      taken = subst (Appends a c) (take_more xs at n) (Appends-trans a b c (take at xs) (take n (drop at xs)) g.taken (subst (λ q. Appends b c (take n q)) r f));
    }

take_all : (xs : List ℕ) → take (length xs) xs ≡ xs
take_all [] = refl
take_all (x ∷ xs) = ap (λ q. x ∷ q) (take_all xs)

pub gone_all : (a b : Option (List ℕ)) (xs : List ℕ) (at : ℕ) → Gone a b xs at → length xs ≤ at → Appends a b xs
gone_all a b xs at g h =
    let e : at ≡ length xs = (let w = g.within in omega arith) in
    subst (Appends a b) (ap (λ k. take k xs) e ∙ take_all xs) g.taken
