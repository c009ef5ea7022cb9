-- What the reader of types fulfils, for the grammars above it that contain types.
use Rattle.std.specs.Prelude.{◌≡◌, ℕ, suc, Bool, true, false}
use Rattle.text.specs.declared.token.Mark.TheVariants.{OpenBrace, OpenParenthesis, Dot}
use Rattle.grammar.specs.Lexeme.{Lexeme, Mark}
use Rattle.grammar.specs.Grows.{Grows}
use Rattle.grammar.specs.Laws.{nowhere, deeper, wider, higher}
use Rattle.grammar.specs.Parts.{SoundReader}
use Rattle.grammar.specs.Places.{Limits, any, small, tag_small, Within}
use Rattle.notation.specs.Laws.{ValueLaws}
use Rattle.grammar.specs.Rules.{Owes}
use Rattle.type_syntax.specs.TypeGrammar.{type}
use Rattle.type_parts.specs.PlainReading.{tag_fits}
use Rattle.type_syntax.specs.TypeReading.{type_at}

-- a type may go on with these: a brace of named numbers, a dot after a module's name, a constraint
abbrev pub type_ends : Lexeme → Bool
type_ends (Mark OpenBrace) = true
type_ends (Mark Dot) = true
type_ends (Mark OpenParenthesis) = true
type_ends t = false

-- The limits b allow the numbers that the reader within a takes. The reader's limit on the numbers of tags follows from
-- its limit on numbers.
pub record Allows (a b : Limits) : Type 0 where
  pub number : (n : ℕ) → a.number n ≡ true → b.number n ≡ true
  pub tag : (n : ℕ) → tag_fits a.number n ≡ true → b.tag n ≡ true
  pub own : (n : ℕ) → a.tag n ≡ true → tag_fits a.number n ≡ true

pub record TypeLaws : Type 0 where
  -- the laws of the values inside types
  pub values : ValueLaws
  -- a type begins with one of these lexemes
  pub starts : Lexeme → Bool
  pub sound : (n : ℕ) → SoundReader nowhere (type small tag_small n) (type_at small n)
  pub sound_any : (n : ℕ) → SoundReader wider (type any tag_small n) (type_at small n)
  pub sound_higher : (n : ℕ) → SoundReader higher (type small any n) (type_at small n)
  pub sound_deeper : (n : ℕ) → SoundReader deeper (type small tag_small (suc n)) (type_at small n)
  -- a are the reader's limits, b the grammar's
  pub owed : (a b : Limits)
      → Allows a b
      → Owes ⊥ (Unit {0}) nowhere (λ l. Within l b a) (type b.number b.tag b.nesting) starts type_ends
      (type_at a.number a.nesting)
  pub grows : (a b : Limits)
      → ((n : ℕ) → a.number n ≡ true → b.number n ≡ true)
      → ((n : ℕ) → a.tag n ≡ true → b.tag n ≡ true)
      → (n : ℕ) → Grows (type a.number a.tag n) (type b.number b.tag n)
  -- the numbers of tags that the compiler's reader takes
  pub tags_small : (n : ℕ) → tag_small n ≡ true → tag_fits small n ≡ true
  pub small_tags : (n : ℕ) → tag_fits small n ≡ true → tag_small n ≡ true
