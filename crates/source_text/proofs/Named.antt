-- The text of a module.
use Rattle.std.proofs.Common.{◌≡◌, ◌⊎◌, ◌↔◌, inl, inr, ℕ, ◌+◌, ◌≤◌, ◌<◌, List, [], ◌∷◌, length, get_or}
use Rattle.std.proofs.Common.{Bool, false, IsTrue, None, Some, Vec, slice_get, sym, ap, ◌∙◌, arith, subst}
use Rattle.std.specs.declared.alloc.Global.{Global}
use Rattle.std.specs.List.{All}
use Rattle.std.proofs.lemmas.Bool.{cases_lt}
use Rattle.std.proofs.lemmas.List.Elements.{All-get_or}
use Rattle.std.proofs.lemmas.Option.{get_or_from_slice_get, slice_get_within}
use Rattle.text.specs.Text.{IsText, IsWithinLimits, IsSpanWithin}
use Rattle.text.specs.declared.token.Token.{Token}
use Rattle.source_text.specs.Modules.{IsFirstText, IsSpelled, IsTextOfModule}

pub same_some : {A : Type 0} {a b : A} → Some a ≡ Some b → a ≡ b
same_some h = cc

-- a text has these tokens, or no tokens were found
abbrev pub AreTokensOf : List ℕ → List Token → Type 0
AreTokensOf x ts = (ts ≡ []) ⊎ (IsText x ts × IsWithinLimits x ts)

pub first_within : (x : List ℕ) (ts : List Token) (t : Token)
    → ((y : List ℕ) (us : List Token) → IsText y us → All (IsSpanWithin (length y)) us)
    → AreTokensOf x ts
    → slice_get ts 0 ≡ Some t
    → IsSpanWithin (length x) t
first_within x [] t within are first = absurd cc
first_within x (u ∷ us) t within are first =
    elim are [
      | inl n ↦ absurd cc
      | inr p ↦ (
          let all = within x (u ∷ us) p.0 in
          let here : IsSpanWithin (length x) (get_or (u ∷ us) 0 t) =
          All-get_or (IsSpanWithin (length x)) (u ∷ us) 0 t (omega arith) all in
          subst (IsSpanWithin (length x)) (get_or_from_slice_get (u ∷ us) 0 t t first) here
          )
    ]

pub is_first : (x name : List ℕ) (ts : List Token) (t : Token) (b : Bool)
    → ((us : List Token) → IsText x us → IsWithinLimits x us → ts ≡ us)
    → AreTokensOf x ts
    → slice_get ts 0 ≡ Some t
    → (IsTrue b ↔ IsSpelled x name t)
    → (IsTrue b ↔ IsTextOfModule name x)
is_first x name ts t b only are first is = (
  λ y. elim are [
    | inl n ↦ absurd (let e : slice_get [] 0 ≡ Some t = subst (λ us. slice_get us 0 ≡ Some t) n first in cc)
    | inr p ↦ record {
      tokens = ts;
      is = p.0;
      within = p.1;
      named = record { token = t; first = first; spelled = is.0 y };
    }
  ],
  λ m. is.1 (subst (IsSpelled x name)
      (same_some (sym m.named.first ∙ (sym (ap (λ us. slice_get us 0) (only m.tokens m.is m.within)) ∙ first)))
      m.named.spelled),
)

pub no_first : (x name : List ℕ) (ts : List Token)
    → ((us : List Token) → IsText x us → IsWithinLimits x us → ts ≡ us)
    → slice_get ts 0 ≡ None
    → (IsTrue false ↔ IsTextOfModule name x)
no_first x name ts only none = (
  λ y. absurd cc,
  λ m. absurd (
      let e : slice_get ts 0 ≡ Some m.named.token =
      ap (λ us. slice_get us 0) (only m.tokens m.is m.within) ∙ m.named.first in
      let f : None ≡ Some m.named.token = sym none ∙ e in cc),
)

-- no text from number n to before number k is that of the module
abbrev pub NoneBefore : List (Vec ℕ Global) → ℕ → List ℕ → ℕ → Type 0
NoneBefore xs n name k =
    (j : ℕ) (v : Vec ℕ Global) → n ≤ j → j < k → slice_get xs j ≡ Some v → IsTextOfModule name v.items → ⊥

pub found_at : (xs : List (Vec ℕ Global)) (n : ℕ) (name : List ℕ) (k : ℕ) (v : Vec ℕ Global)
    → n ≤ k
    → slice_get xs k ≡ Some v
    → NoneBefore xs n name k
    → IsTextOfModule name v.items
    → IsFirstText xs n name k
found_at xs n name k v from at before is = record {
  from = from;
  text = v;
  at = at;
  is = is;
  first = before;
}

pub one_more : (xs : List (Vec ℕ Global)) (n : ℕ) (name : List ℕ) (k : ℕ) (v : Vec ℕ Global)
    → slice_get xs k ≡ Some v
    → NoneBefore xs n name k
    → (IsTextOfModule name v.items → ⊥)
    → NoneBefore xs n name (k + 1)
one_more xs n name k v at before not = λ j w from l there is.
    elim (cases_lt j k) [
      | inl m ↦ before j w from m there is
      | inr m ↦ (
          let e : j ≡ k = omega (arith, l, m) in
          not (subst (λ u. IsTextOfModule name u.items) (same_some (sym there ∙ (ap (slice_get xs) e ∙ at))) is)
          )
    ]

pub none_at_all : (xs : List (Vec ℕ Global)) (n : ℕ) (name : List ℕ) (k : ℕ)
    → length xs ≤ k
    → NoneBefore xs n name k
    → (j : ℕ) (v : Vec ℕ Global) → n ≤ j → slice_get xs j ≡ Some v → IsTextOfModule name v.items → ⊥
none_at_all xs n name k past before j v from at is =
    before j v from (omega (arith, past, slice_get_within xs j v at)) at is
