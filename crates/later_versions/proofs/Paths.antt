-- Paths in labels.
use Rattle.std.proofs.Common.{arith, ◌≡◌, ℕ, zero, suc, ◌+◌, ◌<◌, List, [], ◌∷◌, ap, cond, get_or, length, refl, subst, true, ◌∙◌}
use Rattle.std.specs.Prelude.{drop, nat_lt}
use Rattle.std.proofs.lemmas.Bool.{lt-ltb}
use Rattle.asn_base.specs.Types.{Resolved}
use Rattle.later_versions.specs.Projected.{member_of}
use Rattle.later_versions.specs.DifferenceText.{label_at, with_label, with_members}

-- a path ends before a member with which it would be too long
pub long_path : (s : List Resolved) (t : ℕ) (p : List ℕ) (i : ℕ) (places : List ℕ) → nat_lt 60 (length (with_label p (label_at s t i))) ≡ true → with_members s t p (i ∷ places) ≡ p
long_path s t p i places e =
    ap (λ b. cond b p (with_members s (member_of s t i) (with_label p (label_at s t i)) places)) e

drop_here : (xs : List ℕ) (i d : ℕ) → i < length xs → drop i xs ≡ get_or xs i d ∷ drop (i + 1) xs
drop_here [] i d h = absurd (omega arith)
drop_here (x ∷ xs) zero d h = refl
drop_here (x ∷ xs) (suc i) d h =
    let e : suc (i + 1) ≡ suc i + 1 = omega arith in
    drop_here xs i d (omega arith) ∙ ap (λ k. get_or xs i d ∷ drop k (x ∷ xs)) e

-- a path that would be too long with the next member ends there
pub path_ends : (s : List Resolved) (t : ℕ) (p : List ℕ) (i : ℕ) (places label longer : List ℕ) → i < length places
    → label ≡ label_at s t (get_or places i 0)
    → longer ≡ with_label p label
    → 60 < length longer
    → with_members s t p (drop i places) ≡ p
path_ends s t p i places label longer l e f h =
    let g : longer ≡ with_label p (label_at s t (get_or places i 0)) = f ∙ ap (λ q. with_label p q) e in
    ap (λ q. with_members s t p q) (drop_here places i 0 l)
    ∙ long_path s t p (get_or places i 0) (drop (i + 1) places) (lt-ltb 60 _ (subst (λ q. 60 < length q) g h))
