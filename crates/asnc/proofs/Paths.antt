-- The path of what was being read, open value by open value.
use Rattle.std.proofs.Common.{arith, ◌≡◌, ℕ, zero, suc, ◌+◌, List, [], ◌∷◌, Some, sym, ap, ◌∙◌}
use Rattle.std.specs.Prelude.{drop, slice_get}
use Rattle.asn_base.specs.Types.{Resolved}
use Rattle.ber_reader.specs.declared.open.OpenValue.{OpenValue}
use Rattle.asnc.specs.ErrorSites.{with_opens, path_of, with_open}

pub drop_here : {A : Type 0} (xs : List A) (i : ℕ) (x : A) → slice_get xs i ≡ Some x → drop i xs ≡ x ∷ drop (i + 1) xs
drop_here [] i x e = absurd cc
drop_here (y ∷ xs) zero x e = let s : y ≡ x = cc in ap (λ q. q ∷ xs) s
drop_here (y ∷ xs) (suc i) x e =
    drop_here xs i x e ∙ ap (λ k. x ∷ drop k (y ∷ xs)) (let n : suc (i + 1) ≡ suc i + 1 = omega arith in n)

-- the path has one more open value
pub one_more : (s : List Resolved) (os : List OpenValue) (i : ℕ) (o : OpenValue) (p q : List ℕ) → slice_get os i ≡ Some o
    → q ≡ with_open s p o
    → with_opens s p (drop i os) ≡ path_of s os
    → with_opens s q (drop (i + 1) os) ≡ path_of s os
one_more s os i o p q e w h =
    ap (λ z. with_opens s z (drop (i + 1) os)) w ∙ ap (with_opens s p) (sym (drop_here os i o e)) ∙ h
