-- Fronts of lists.
use Rattle.std.proofs.Common.{arith, ◌≡◌, ℕ, List, [], ◌∷◌, ◌++◌, length, refl, ap}

abbrev pub head_or_0 : List ℕ → ℕ
head_or_0 [] = 0
head_or_0 (x ∷ xs) = x

abbrev pub tail_of : {A : Type 0} → List A → List A
tail_of [] = []
tail_of (x ∷ xs) = xs

-- two lists that are the same in all are the same in their parts, if the first parts are equally long
pub split_front : (a b x y : List ℕ) → length a ≡ length b → a ++ x ≡ b ++ y → (a ≡ b) × (x ≡ y)
split_front [] [] x y l e = (refl, e)
split_front [] (c ∷ b) x y l e = absurd (omega arith)
split_front (c ∷ a) [] x y l e = absurd (omega arith)
split_front (c ∷ a) (d ∷ b) x y l e =
    let r = split_front a b x y (omega arith) (ap tail_of e) in
    let h : c ≡ d = ap head_or_0 e in
    let t : a ≡ b = r.0 in (cc, r.1)
