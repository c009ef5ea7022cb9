-- What the reader of values fulfils, for the grammars above it that contain values.
use Rattle.std.specs.Prelude.{◌≡◌, ℕ, suc, ◌≤◌, Bool, true, false, List, length, slice_get, if◌then◌else◌}
use Rattle.std.proofs.Common.{refl, sym, ap, subst, ◌∙◌ as ◌⋆◌}
use Rattle.text.specs.declared.token.Mark.TheVariants.{Colon, Minus, OpenBrace}
use Rattle.text.specs.declared.reserved.Word.TheVariants.{True, False, Null}
use Rattle.grammar.specs.Lexeme.{Lexeme, Number, Word, Mark}
use Rattle.grammar.specs.Grows.{Grows}
use Rattle.grammar.specs.Answers.{Reads, one_stop, not_both, one_limit}
use Rattle.grammar.specs.Laws.{nowhere, deeper, wider, higher, Sound, Finds}
use Rattle.grammar.specs.Lists.{IsSolid}
use Rattle.grammar.specs.Places.{Limits, Limited, Within, any, small, Ends}
use Rattle.grammar.specs.Reading.{Reader}
use Rattle.parser_combinators.specs.declared.read_error.Limit.{Limit as Limit'}
use Rattle.parser_combinators.specs.declared.read_error.Limit.TheVariants as limits
use Rattle.parser_combinators.specs.Given.{limit_of}
use Rattle.notation.specs.declared.syntax_fault.SyntaxFault.{SyntaxFault}
use Rattle.notation.specs.declared.syntax_fault.SyntaxFault.TheVariants as faults
use Rattle.notation.specs.Answer.{is_refused_at, unexpected, IsRightNotationFault}
use Rattle.notation.specs.Value.{value}
use Rattle.notation.specs.Reading.{value_at}

-- a value begins with one of these lexemes
abbrev pub starts : (ℕ → Bool) → Lexeme → Bool
starts fits (Number n) = fits n
starts fits (Mark OpenBrace) = true
starts fits (Mark Minus) = true
starts fits (Mark m) = false
starts fits (Word True) = true
starts fits (Word False) = true
starts fits (Word Null) = true
starts fits (Word w) = false
starts fits t = true

-- a value that is a name goes on with this lexeme alone
abbrev pub goes_on : Lexeme → Bool
goes_on (Mark Colon) = true
goes_on t = false

pub record ValueLaws : Type 0 where
  pub sound : (n : ℕ) (ts : List Lexeme) → Sound nowhere (value small n) ts (value_at small n ts)
  pub sound_any : (n : ℕ) (ts : List Lexeme) → Sound wider (value any n) ts (value_at small n ts)
  pub sound_higher : (n : ℕ) (ts : List Lexeme) → Sound higher (value small n) ts (value_at small n ts)
  pub sound_deeper : (n : ℕ) (ts : List Lexeme) → Sound deeper (value small (suc n)) ts (value_at small n ts)
  -- a are the reader's limits, b the grammar's
  pub finds : (a b : Limits)
      → Finds (λ l. Within l b a) (value b.number b.nesting) (starts b.number) goes_on (value_at a.number a.nesting)
  pub grows : (fits fits' : ℕ → Bool)
      → ((n : ℕ) → fits n ≡ true → fits' n ≡ true)
      → (n : ℕ) → Grows (value fits n) (value fits' n)
  pub solid : (fits : ℕ → Bool) (n : ℕ) → IsSolid (value fits n)

-- the fault returned for a place where nothing can go on is the right one
pub fault_at_first : {A : Type 0} (g : Limited A) (ts : List Lexeme) (start : ℕ) (a : Limits) (i : ℕ) (f : SyntaxFault)
    → f ≡ unexpected ts i
    → Ends g a ts start i
    → IsRightNotationFault g ts start a f
fault_at_first g ts start a i f e h = go f (is_refused_at (slice_get ts i)) refl e
  where
    go : (f : SyntaxFault) (b : Bool) → is_refused_at (slice_get ts i) ≡ b → f ≡ unexpected ts i
        → IsRightNotationFault g ts start a f
    go f true q e = subst (IsRightNotationFault g ts start a)
        (sym (e ⋆ ap (λ (b : Bool). if b then faults.OutOfProfile i else faults.Unexpected i) q)) (h, q)
    go f false q e = subst (IsRightNotationFault g ts start a)
        (sym (e ⋆ ap (λ (b : Bool). if b then faults.OutOfProfile i else faults.Unexpected i) q)) (h, q)

-- at most one fault is right, apart from Memory
module _ {A : Type 0} (g : Limited A) (a : Limits) (read : Reader A) (reads : Reads g a read) (ts : List Lexeme)
    (start : ℕ) (place : start ≤ length ts) where
  refused_at : (i j : ℕ) (b c : Bool)
      → i ≡ j
      → is_refused_at (slice_get ts i) ≡ b
      → is_refused_at (slice_get ts j) ≡ c
      → b ≡ c
  refused_at i j b c e p q = sym p ⋆ ap (λ (i : ℕ). is_refused_at (slice_get ts i)) e ⋆ q

  limit_is : (l m : Limit') → limit_of l ≡ limit_of m → l ≡ m
  limit_is limits.Nesting limits.Nesting e = refl
  limit_is limits.Integer limits.Integer e = refl
  limit_is limits.TagNumber limits.TagNumber e = refl
  limit_is l m e = absurd cc

  pub faults_agree : (f f' : SyntaxFault)
      → (f ≡ faults.Memory → ⊥)
      → (f' ≡ faults.Memory → ⊥)
      → IsRightNotationFault g ts start a f
      → IsRightNotationFault g ts start a f'
      → f ≡ f'
  faults_agree faults.Memory f' n n' s s' = absurd (n refl)
  faults_agree f faults.Memory n n' s s' = absurd (n' refl)
  faults_agree (faults.Unexpected i) (faults.Unexpected j) n n' s s' = ap (λ (i : ℕ). faults.Unexpected i)
      (one_stop g a ts start i j s.0.stops s'.0.stops)
  faults_agree (faults.OutOfProfile i) (faults.OutOfProfile j) n n' s s' = ap (λ (i : ℕ). faults.OutOfProfile i)
      (one_stop g a ts start i j s.0.stops s'.0.stops)
  faults_agree (faults.Unexpected i) (faults.OutOfProfile j) n n' s s' = let e = refused_at i j false true
      (one_stop g a ts start i j s.0.stops s'.0.stops) s.1 s'.1 in absurd cc
  faults_agree (faults.OutOfProfile i) (faults.Unexpected j) n n' s s' = let e = refused_at i j true false
      (one_stop g a ts start i j s.0.stops s'.0.stops) s.1 s'.1 in absurd cc
  faults_agree (faults.Unexpected i) (faults.Limit l j) n n' s s' =
      absurd (not_both g a ts start i j (limit_of l) s.0 s')
  faults_agree (faults.OutOfProfile i) (faults.Limit l j) n n' s s' =
      absurd (not_both g a ts start i j (limit_of l) s.0 s')
  faults_agree (faults.Limit l i) (faults.Unexpected j) n n' s s' =
      absurd (not_both g a ts start j i (limit_of l) s'.0 s)
  faults_agree (faults.Limit l i) (faults.OutOfProfile j) n n' s s' =
      absurd (not_both g a ts start j i (limit_of l) s'.0 s)
  faults_agree (faults.Limit l i) (faults.Limit m j) n n' s s' =
      same_limit l m i j (limit_is l m (one_limit g a read reads ts start place (limit_of l) (limit_of m) i j s s'))
      (one_stop g a ts start i j s.stops s'.stops)
    where
      same_limit : (l m : Limit') (i j : ℕ) → l ≡ m → i ≡ j → faults.Limit l i ≡ faults.Limit m j
      same_limit l m i j e d = ap (λ (l : Limit'). faults.Limit l i) e ⋆ ap (λ (i : ℕ). faults.Limit m i) d
