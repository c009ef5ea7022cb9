-- Numbers that are noted for types in a list, one after another. A type may also have no note yet.
use Rattle.std.proofs.Common.{◌≡◌, ◌⊎◌, inl, inr, ℕ, zero, suc, ◌<◌, List, [], ◌∷◌, length, Some, refl, sym, subst, ap, ◌∙◌, arith, set}
use Rattle.std.specs.Prelude.{slice_get}
use Rattle.std.proofs.lemmas.Option.{slice_get_within, same_Some}

-- In a table of n types there is a note for type i. A number from n on in the list means that there is no note.
abbrev pub IsKnown : ℕ → List ℕ → ℕ → Type 0
IsKnown n notes i = (x : ℕ) × (slice_get notes i ≡ Some x) × (x < n)

-- each note is right
abbrev pub AreRight : ℕ → (ℕ → ℕ → Type 0) → List ℕ → Type 0
AreRight n P notes = (i x : ℕ) → slice_get notes i ≡ Some x → x < n → P i x

-- no type has a note yet
abbrev pub AreUnknown : ℕ → List ℕ → Type 0
AreUnknown n notes = (i : ℕ) → IsKnown n notes i → ⊥

-- each type has a note, and each note is right
pub record AreNoted (n : ℕ) (P : ℕ → ℕ → Type 0) (notes : List ℕ) : Type 0 where
  pub long : length notes ≡ n
  pub each : (i x : ℕ) → slice_get notes i ≡ Some x → (x < n) × P i x

pub set_kept : (xs : List ℕ) (i j s : ℕ) → slice_get xs j ≡ Some s → slice_get (set xs i s) j ≡ Some s
set_kept [] i j s e = absurd cc
set_kept (x ∷ xs) zero zero s e = refl
set_kept (x ∷ xs) zero (suc j) s e = e
set_kept (x ∷ xs) (suc i) zero s e = e
set_kept (x ∷ xs) (suc i) (suc j) s e = set_kept xs i j s e

pub set_here : (xs : List ℕ) (i s : ℕ) → i < length xs → slice_get (set xs i s) i ≡ Some s
set_here [] i s l = absurd (omega arith)
set_here (x ∷ xs) zero s l = refl
set_here (x ∷ xs) (suc i) s l = set_here xs i s (omega arith)

pub set_only : (xs : List ℕ) (i j s n : ℕ) → slice_get (set xs i s) j ≡ Some n →
    slice_get xs j ≡ Some n ⊎ ((j ≡ i) × (n ≡ s))
set_only [] i j s n e = inl e
set_only (x ∷ xs) zero zero s n e = let q : s ≡ n = cc in inr (refl, sym q)
set_only (x ∷ xs) zero (suc j) s n e = inl e
set_only (x ∷ xs) (suc i) zero s n e = inl e
set_only (x ∷ xs) (suc i) (suc j) s n e = elim (set_only xs i j s n e) [ inl h ↦ inl h | inr h ↦ inr (ap suc h.0, h.1) ]

kept_or_new : (xs : List ℕ) (i j s n : ℕ) → slice_get xs j ≡ Some n →
    (slice_get (set xs i s) j ≡ Some n) ⊎ (slice_get (set xs i s) j ≡ Some s)
kept_or_new [] i j s n e = absurd cc
kept_or_new (x ∷ xs) zero zero s n e = inr refl
kept_or_new (x ∷ xs) zero (suc j) s n e = inl e
kept_or_new (x ∷ xs) (suc i) zero s n e = inl e
kept_or_new (x ∷ xs) (suc i) (suc j) s n e = kept_or_new xs i j s n e

pub still_known : (n : ℕ) (notes : List ℕ) (i j x : ℕ) → x < n → IsKnown n notes j → IsKnown n (set notes i x) j
still_known n notes i j x l k = elim (kept_or_new notes i j x k.0 k.1) [ inl e ↦ (k.0, e, k.2) | inr e ↦ (x, e, l) ]

pub now_known : (n : ℕ) (notes : List ℕ) (i x : ℕ) → i < length notes → x < n → IsKnown n (set notes i x) i
now_known n notes i x l m = (x, set_here notes i x l, m)

module _ (n : ℕ) (P : ℕ → ℕ → Type 0) where
  pub right_more : (notes : List ℕ) (i x : ℕ) → AreRight n P notes → P i x → AreRight n P (set notes i x)
  right_more notes i x known u j d e l =
      elim (set_only notes i j x d e) [
        | inl h ↦ known j d h l
        | inr h ↦ subst (λ z. P z d) (sym h.0) (subst (λ z. P i z) (sym h.1) u)
      ]

  pub right_first : (notes : List ℕ) → AreUnknown n notes → AreRight n P notes
  right_first notes unknown i x e l = absurd (unknown i (x, e, l))

  -- the note of a type is the number at its place
  noted_at : (notes : List ℕ) (i : ℕ) → AreRight n P notes → IsKnown n notes i → (x : ℕ) →
      slice_get notes i ≡ Some x → (x < n) × P i x
  noted_at notes i known k x e =
      let f : k.0 ≡ x = same_Some k.0 x (sym k.1 ∙ e) in
      let l : x < n = subst (λ z. z < n) f k.2 in
      (l, known i x e l)

  pub all_noted : (notes : List ℕ) → length notes ≡ n → AreRight n P notes → ((i : ℕ) → i < n → IsKnown n notes i) →
      AreNoted n P notes
  all_noted notes long known all = record {
    long = long;
    each = λ i x e. let w = slice_get_within notes i x e in noted_at notes i known (all i (omega (arith, w, long))) x e;
  }
