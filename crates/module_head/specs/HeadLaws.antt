-- What the reader of a module's head fulfils, for the reader of whole modules.
use Rattle.std.specs.Prelude.{◌≡◌, ℕ, Bool, true, false}
use Rattle.text.specs.declared.reserved.Word.TheVariants.{Exports, Imports}
use Rattle.grammar.specs.Lexeme.{Lexeme, Word}
use Rattle.grammar.specs.Grows.{Grows}
use Rattle.grammar.specs.Numbers.{Past}
use Rattle.grammar.specs.Places.{Limits, Within}
use Rattle.grammar.specs.Reading.{Limit, Integer}
use Rattle.grammar.specs.Single.{is_typeref}
use Rattle.grammar.specs.Rules.{Rules}
use Rattle.module_head.specs.Heading.{head}
use Rattle.module_head.specs.HeadReading.{head_at}

-- a head may go on with this lexeme
abbrev pub head_ends : Lexeme → Bool
head_ends (Word Exports) = true
head_ends (Word Imports) = true
head_ends t = false

-- a are the reader's limits, b the grammar's
pub record HeadLaws : Type 0 where
  pub read : (over : Limit → ℕ) (a b : Limits)
      → ((n : ℕ) → a.number n ≡ true → b.number n ≡ true)
      → Past (over Integer) ((n : ℕ) → b.number n ≡ true)
      → Rules over (λ l. Within l b a) (head b.number) is_typeref head_ends (head_at a.number)
  pub grows : (fits fits' : ℕ → Bool)
      → ((n : ℕ) → fits n ≡ true → fits' n ≡ true)
      → Grows (head fits) (head fits')
