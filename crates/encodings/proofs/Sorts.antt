-- Encodings of which each two are in one order or the other can be sorted.
use Rattle.std.proofs.Common.{arith, ◌≡◌, ℕ, ◌⊎◌, inl, inr, ⊎_elim, List, [], ◌∷◌, sym}
use Rattle.std.specs.List.{AllByRecursion}
use Rattle.encodings.specs.Orders.{AtMost, Ascending, ascending_none, ascending_one, ascending_more, EncodingInserted, here, there, Permutes, permutes_none, permutes_more}
use Rattle.encodings.proofs.Least.{all_permutes}
use Rattle.encodings.proofs.Shortests.{lt_or_ge}

abbrev pub Either : (List ℕ → List ℕ → Type 0) → List ℕ → List ℕ → Type 0
Either R x y = R x y ⊎ R y x

abbrev pub AllEither : (List ℕ → List ℕ → Type 0) → List (List ℕ) → Type 0
AllEither R [] = Unit {0}
AllEither R (x ∷ xs) = AllByRecursion (Either R x) xs × AllEither R xs

pub record Sorted' (R : List ℕ → List ℕ → Type 0) (xs : List (List ℕ)) : Type 0 where
  pub list : List (List ℕ)
  pub permutes : Permutes xs list
  pub ascends : Ascending R list

module _ (R : List ℕ → List ℕ → Type 0) where
  record Put (p x : List ℕ) (zs : List (List ℕ)) : Type 0 where
    list : List (List ℕ)
    at : EncodingInserted x zs list
    ascends : Ascending R (p ∷ list)

  put_after : (p x : List ℕ) (zs : List (List ℕ)) → R p x → Ascending R (p ∷ zs) → AllByRecursion (Either R x) zs → Put p x zs
  put_after p x [] h a e = record { list = x ∷ []; at = here; ascends = ascending_more h ascending_one }
  put_after p x (z ∷ zs) h (ascending_more k a) e = ⊎_elim
      (λ l. record { list = x ∷ z ∷ zs; at = here; ascends = ascending_more h (ascending_more l a) })
      (λ g. (let r = put_after z x zs g a e.1 in record { list = z ∷ r.list; at = there r.at; ascends = ascending_more k r.ascends }))
      e.0

  put_in : (x : List ℕ) (xs zs : List (List ℕ)) → Permutes xs zs → Ascending R zs → AllByRecursion (Either R x) zs → Sorted' R (x ∷ xs)
  put_in x xs [] p a e = record { list = x ∷ []; permutes = permutes_more p here; ascends = ascending_one }
  put_in x xs (z ∷ zs) p a e = ⊎_elim
      (λ l. record { list = x ∷ z ∷ zs; permutes = permutes_more p here; ascends = ascending_more l a })
      (λ g. (let r = put_after z x zs g a e.1 in record { list = z ∷ r.list; permutes = permutes_more p (there r.at); ascends = r.ascends }))
      e.0

  pub sorted : (xs : List (List ℕ)) → AllEither R xs → Sorted' R xs
  sorted [] e = record { list = []; permutes = permutes_none; ascends = ascending_none }
  sorted (x ∷ xs) e = let r = sorted xs e.1 in put_in x xs r.list r.permutes r.ascends (all_permutes (Either R x) r.permutes e.0)

pub at_most_either : (x y : List ℕ) → Either AtMost x y
at_most_either [] y = inl tt
at_most_either (x ∷ xs) [] = inr tt
at_most_either (x ∷ xs) (y ∷ ys) = ⊎_elim
    (λ l. inl (inl l))
    (λ g. ⊎_elim (λ l. inr (inl l)) (λ h. (let e : x ≡ y = omega arith in ⊎_elim (λ a. inl (inr (e, a))) (λ a. inr (inr (sym e, a))) (at_most_either xs ys))) (lt_or_ge y x))
    (lt_or_ge x y)
