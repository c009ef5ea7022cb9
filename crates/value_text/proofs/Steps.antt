-- Steps of loops that add the texts of members, one after another.
use Rattle.std.proofs.Common.{arith, ◌≡◌, ℕ, zero, suc, ◌+◌, ◌<◌, ◌≤◌, List, [], ◌∷◌, ◌++◌, length, drop, sym, ap, ◌∙◌, append_assoc, codes, get_or}
use Rattle.std.proofs.Math.Seq.{drop-cons}
use Rattle.std.proofs.lemmas.List.{append-nil, drop_all}

-- the text before the element at place i
abbrev pub comma_at : ℕ → List ℕ
comma_at zero = []
comma_at (suc i) = codes ", "

abbrev pub space_at : ℕ → List ℕ
space_at zero = []
space_at (suc i) = codes " "

pub drop_at : {X : Type 0} (xs : List X) (i : ℕ) (x d : X) → i < length xs → x ≡ get_or xs i d → drop i xs ≡ x ∷ drop (i + 1) xs
drop_at xs i x d l e =
    let n : i + 1 ≡ suc i = omega arith in
    drop-cons xs i d l ∙ ap (λ y. y ∷ drop (suc i) xs) (sym e) ∙ ap (λ k. x ∷ drop k xs) (sym n)

pub none_left : {X : Type 0} (xs : List X) (i : ℕ) → length xs ≤ i → drop i xs ≡ []
none_left xs i l = drop_all i xs l

-- one member's text is added, and the rest is left
pub glued : (out one rest whole new total : List ℕ) → whole ≡ one ++ rest → out ++ whole ≡ total → new ≡ out ++ one → new ++ rest ≡ total
glued out one rest whole new total e f g =
    ap (λ (l : List ℕ). l ++ rest) g ∙ append_assoc out one rest ∙ ap (λ (l : List ℕ). out ++ l) (sym e) ∙ f

-- nothing is left
pub over : (out rest total : List ℕ) → rest ≡ [] → out ++ rest ≡ total → out ≡ total
over out rest total e f = sym (append-nil out) ∙ ap (λ (l : List ℕ). out ++ l) (sym e) ∙ f
