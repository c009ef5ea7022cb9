-- The element at a place that was looked for.
use Rattle.std.proofs.Common.{arith, ◌≡◌, ◌<◌, ℕ, zero, suc, ℤ, List, [], ◌∷◌, length, get_or, map, inl, inr, sym, subst}
use Rattle.asn_base.specs.declared.schema.Item.{Item as Item'}
use Rattle.asn_base.specs.Names.{IsMember, is_first, is_later}
use Rattle.asn_base.specs.Seen.{item_of}
use Rattle.asn_base.specs.Typed.{HasNumber}

-- what is true of the rest from some place on is true of the whole
from_place : {A : Type 0} (P : List A → Type 0) → ((y : A) (ys : List A) → P ys → P (y ∷ ys)) → (xs : List A) (i : ℕ) (x : A)
    → i < length xs → x ≡ get_or xs i x → ((ys : List A) → P (x ∷ ys)) → P xs
from_place P more [] i x l e h = absurd (omega (arith, l))
from_place P more (y ∷ xs) zero x l e h = subst (λ z. P (z ∷ xs)) e (h xs)
from_place P more (y ∷ xs) (suc i) x l e h = more y xs (from_place P more xs i x (omega (arith, l)) e h)

pub item_found : (is : List Item') (i : ℕ) (x : Item') (z : ℤ) → i < length is → x ≡ get_or is i x → x.number ≡ z
    → HasNumber (map item_of is) z
item_found is i x z l e h = from_place (λ q. HasNumber (map item_of q) z) (λ y ys p. inr p) is i x l e (λ ys. inl h)

pub code_found : (cs : List ℕ) (i d c : ℕ) → i < length cs → d ≡ get_or cs i d → d ≡ c → IsMember c cs
code_found cs i d c l e h =
    from_place (λ q. IsMember c q) (λ y ys p. is_later p) cs i d l e (λ ys. subst (λ x. IsMember c (x ∷ ys)) (sym h) is_first)
