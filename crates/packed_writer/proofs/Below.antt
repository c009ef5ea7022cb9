-- The order of bits, where the shorter ones are filled with zeros.
use Rattle.std.proofs.Common.{◌≡◌, suc, ◌+◌, ◌⊎◌, ⊎_elim, Bool, true, false, [], ◌∷◌, refl, sym, ap, subst, ◌∙◌, arith}
use Rattle.std.proofs.lemmas.Bool.{or_parts}
use Rattle.std.specs.Prelude.{not, ◌&&◌, ◌||◌, slice_index_or}
use Rattle.std.specs.Cmp.{IsStrictWeakOrder}
use Rattle.std.specs.List.Sorted.{IsSortedBy}
use Rattle.packed_encodings.specs.Computed.{is_below}
use Rattle.packed_encodings.specs.Lengths.{Bits, Items}
use Rattle.packed_encodings.specs.Orders.{BitsAtMost, BitsAscend, ascending_none, ascending_one, ascending_more}

pub none_below : (x : Bits) → is_below x [] ≡ false
none_below [] = refl
none_below (b ∷ x) = refl

abbrev pub at_first : Bool → Bool → Bool → Bool
at_first x y rest = (not x && y) || (not (x && not y) && rest)

-- ---- an order

pub not_true : {A : Type 0} → false ≡ true → A
not_true e = absurd (cc)

pub at_most : (y x : Bits) → is_below x y ≡ false → BitsAtMost y x
at_most [] x e = tt
at_most (y ∷ ys) [] e = let p = or_parts y (is_below [] ys) e in (p.0, at_most ys [] p.1)
at_most (true ∷ ys) (false ∷ xs) e = not_true (sym e)
at_most (false ∷ ys) (true ∷ xs) e = tt
at_most (false ∷ ys) (false ∷ xs) e = at_most ys xs e
at_most (true ∷ ys) (true ∷ xs) e = at_most ys xs e

from_at_most : (y x : Bits) → BitsAtMost y x → is_below x y ≡ false
from_at_most [] x h = none_below x
from_at_most (y ∷ ys) [] h = ap (λ q. q || is_below [] ys) h.0 ∙ from_at_most ys [] h.1
from_at_most (true ∷ ys) (false ∷ xs) h = absurd h
from_at_most (false ∷ ys) (true ∷ xs) h = refl
from_at_most (false ∷ ys) (false ∷ xs) h = from_at_most ys xs h
from_at_most (true ∷ ys) (true ∷ xs) h = from_at_most ys xs h

pub weak_order : ((x y : Bits) → BitsAtMost x y ⊎ BitsAtMost y x) → ((x y z : Bits) → BitsAtMost x y → BitsAtMost y z → BitsAtMost x z) → IsStrictWeakOrder is_below
weak_order either joined = record {
  one_way = λ x y h. ⊎_elim (λ l. from_at_most x y l) (λ r. not_true (sym (from_at_most y x r) ∙ h)) (either x y);
  chain = λ x y z h k. from_at_most z x (joined z y x (at_most z y k) (at_most y x h));
}

pub ascending_from : (xs : Items) → IsSortedBy is_below xs → BitsAscend xs
ascending_from [] h = ascending_none
ascending_from (x ∷ []) h = ascending_one
ascending_from (x ∷ y ∷ xs) h = ascending_more (at_most x y (h 0 x (omega arith) (omega arith)))
    (ascending_from (y ∷ xs) (λ k d l g.
    let e : suc k + 1 ≡ suc (k + 1) = omega arith in
    subst (λ q. is_below (slice_index_or (x ∷ y ∷ xs) q d) (slice_index_or (y ∷ xs) k d) ≡ false) e (h (suc k) d (omega arith) (omega arith))))
