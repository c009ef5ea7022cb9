-- Numbers under a limit.
use Rattle.std.proofs.Common.{◌≡◌, ℕ, zero, suc, ◌≤◌, inl, inr, Bool, true, false, List, [], ◌∷◌, ◌++◌, length, Err, refl, sym, ap, append_assoc, arith, ◌∙◌ as ◌⋆◌}
use Rattle.grammar.specs.Lexeme.{Lexeme, Number}
use Rattle.grammar.specs.Grammar.{Grammar}
use Rattle.grammar.specs.Reading.{Limit, Integer, Beyond, Read, fitting}
use Rattle.grammar.specs.Laws.{more, Sound, Passes, ReadsAs, passes_on}

-- what is required if a limit's fault is after the lexeme that passes it
abbrev pub Past : ℕ → Type 0 → Type 0
Past zero P = Unit {0}
Past (suc over) P = P

beyond_sound : (over : Limit → ℕ) (k : ℕ)
    → over Integer ≡ k
    → (P : Type 0)
    → Past k P
    → {A : Type 0} (g : Grammar A) (n : ℕ) (u ts : List Lexeme)
    → g.IsPrefix u
    → (P → g.IsPrefix (u ++ Number n ∷ []))
    → Sound over g (u ++ Number n ∷ ts) (Err (Beyond Integer (length (Number n ∷ ts))))
beyond_sound over zero e P past g n u ts before with_it =
    (u, Number n ∷ ts, refl, ap (λ (k : ℕ). more k (length (Number n ∷ ts))) (sym e), before)
beyond_sound over (suc k) e P past g n u ts before with_it = (
  u ++ Number n ∷ [],
  ts,
  sym (append_assoc u (Number n ∷ []) ts),
  same
      ⋆ ap (λ (k : ℕ). more k (length ts)) (sym e),
  with_it past,
)
  where
    same : length (Number n ∷ ts) ≡ suc (length ts)
    same = omega arith

-- a number after a prefix
pub fitting_sound : (over : Limit → ℕ) (fits fits' : ℕ → Bool)
    → Past (over Integer) ((n : ℕ) → fits' n ≡ true)
    → {A : Type 0} (g : Grammar A) (b : Bool) (n : ℕ) (u ts : List Lexeme) (r : Read A)
    → g.IsPrefix u
    → (fits' n ≡ true → g.IsPrefix (u ++ Number n ∷ []))
    → (b ≡ true → Sound over g (u ++ Number n ∷ ts) r)
    → Sound over g (u ++ Number n ∷ ts) (fitting b (Number n ∷ ts) r)
fitting_sound over fits fits' past g true n u ts r before with_it h = h refl
fitting_sound over fits fits' past g false n u ts r before with_it h =
    beyond_sound over (over Integer) refl ((n : ℕ) → fits' n ≡ true) past g n u ts before (λ all. with_it (all n))

-- if the reader refuses a number, not all is within the limit
not_within : (within : Limit → Type 0) → (within Integer → false ≡ true) → within Integer → ⊥
not_within within room w = absurd (let e = room w in cc)

-- a number of a prefix
pub fitting_passes : {A : Type 0} (within : Limit → Type 0) (b : Bool) (us ts : List Lexeme) (r : Read A)
    → (within Integer → b ≡ true) → Passes within us r → Passes within us (fitting b ts r)
fitting_passes within true us ts r room h = h
fitting_passes within false us ts r room h = inr (not_within within room)

-- a number right after a prefix
pub fitting_shrinks : {A : Type 0} (within : Limit → Type 0) (b : Bool) (n : ℕ) (us : List Lexeme) (r : Read A)
    → Passes within us r → Passes within (Number n ∷ us) (fitting b (Number n ∷ us) r)
fitting_shrinks within true n us r h = passes_on within (Number n ∷ us) us r (omega arith) h
fitting_shrinks within false n us r h = inl (omega arith)

pub fitting_reads_as : {A : Type 0} (within : Limit → Type 0) (b : Bool) (ts us : List Lexeme) (r : Read A) (x : A)
    → (within Integer → b ≡ true) → ReadsAs within r x us → ReadsAs within (fitting b ts r) x us
fitting_reads_as within true ts us r x room h = h
fitting_reads_as within false ts us r x room h = inr ((Integer, length ts), not_within within room, refl)

-- a number among the lexemes after a prefix
pub fitting_passes_on : {A : Type 0} (within : Limit → Type 0) (b : Bool) (us ts : List Lexeme) (r : Read A)
    → length ts ≤ length us → Passes within us r → Passes within us (fitting b ts r)
fitting_passes_on within true us ts r le h = h
fitting_passes_on within false us ts r le h = inl le
