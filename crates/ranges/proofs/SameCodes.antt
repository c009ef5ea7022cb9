-- Ascending codes with the same members are the same.
use Rattle.std.proofs.Common.{inl, inr, ◌≡◌, ℕ, ◌<◌, arith, refl, sym, ap, ◌∙◌}
use Rattle.std.specs.Prelude.{◌⊎◌, ◌↔◌, List, [], ◌∷◌}
use Rattle.std.specs.List.{AllByRecursion}
use Rattle.asn_base.specs.Names.{IsMember, is_first, is_later}
use Rattle.asn_base.specs.Schemas.{CodesAscend}

no_member : (c : ℕ) → IsMember c [] → ⊥
no_member c m = elim m [ ]

first_or_later : (c d : ℕ) (ds : List ℕ) → IsMember c (d ∷ ds) → (c ≡ d) ⊎ IsMember c ds
first_or_later c d ds is_first = inl refl
first_or_later c d ds (is_later m) = inr m

above : (c x : ℕ) (cs : List ℕ) → AllByRecursion (λ d. c < d) cs → IsMember x cs → c < x
above c x [] a m = absurd (no_member x m)
above c x (d ∷ cs) a is_first = a.0
above c x (d ∷ cs) a (is_later m) = above c x cs a.1 m

same_first : (c d : ℕ) (cs ds : List ℕ)
    → AllByRecursion (λ e. c < e) cs
    → AllByRecursion (λ e. d < e) ds
    → IsMember c (d ∷ ds)
    → IsMember d (c ∷ cs)
    → c ≡ d
same_first c d cs ds a b m n =
    elim (first_or_later c d ds m) [
      | inl e ↦ e
      | inr k ↦ elim (first_or_later d c cs n) [
        | inl e ↦ sym e
        | inr l ↦ absurd (let f = above d c ds b k in let g = above c d cs a l in omega arith)
      ]
    ]

behind : (c d x : ℕ) (cs ds : List ℕ)
    → AllByRecursion (λ e. c < e) cs
    → c ≡ d
    → IsMember x cs
    → IsMember x (d ∷ ds)
    → IsMember x ds
behind c d x cs ds a e m n =
    elim (first_or_later x d ds n) [
      | inl f ↦ absurd (let g = above c x cs a m in omega arith)
      | inr k ↦ k
    ]

pub same_codes : (cs ds : List ℕ)
    → CodesAscend cs
    → CodesAscend ds
    → ((c : ℕ) → IsMember c cs ↔ IsMember c ds)
    → cs ≡ ds
same_codes [] [] a b s = refl
same_codes [] (d ∷ ds) a b s = absurd (no_member d ((s d).1 is_first))
same_codes (c ∷ cs) [] a b s = absurd (no_member c ((s c).0 is_first))
same_codes (c ∷ cs) (d ∷ ds) a b s =
    let e = same_first c d cs ds a.0 b.0 ((s c).0 is_first) ((s d).1 is_first) in
    let tail : cs ≡ ds = same_codes cs ds a.1 b.1 (λ x. (
      λ m. behind c d x cs ds a.0 e m ((s x).0 (is_later m)),
      λ m. behind d c x ds cs b.0 (sym e) m ((s x).1 (is_later m)),
    )) in
    ap (λ x. x ∷ cs) e ∙ ap (λ xs. d ∷ xs) tail
