-- Tests of single lexemes that several grammars share.
use Rattle.std.proofs.Common.{◌≡◌, ℕ, Bool, true, false, [], ◌∷◌, List, Ok, refl}
use Rattle.text.specs.declared.token.Mark.TheVariants.{CloseBrace, Comma, Dot, Ellipsis, Minus}
use Rattle.text.specs.declared.reserved.Word.TheVariants.{From}
use Rattle.grammar.specs.Lexeme.{Lexeme, Number, Word, Mark}
use Rattle.grammar.specs.Reading.{Reader, stop}
use Rattle.grammar.specs.Laws.{is_comma}
use Rattle.grammar.specs.Parts.{IsKind}
use Rattle.grammar.specs.Rules.{is_number}
use Rattle.grammar.specs.Single.{is_closed}

pub comma_one : (t : Lexeme) → is_comma t ≡ true → t ≡ Mark Comma
comma_one (Mark Comma) e = refl
comma_one t e = absurd cc

abbrev pub is_ellipsis : Lexeme → Bool
is_ellipsis (Mark Ellipsis) = true
is_ellipsis t = false

pub ellipsis_one : (t : Lexeme) → is_ellipsis t ≡ true → t ≡ Mark Ellipsis
ellipsis_one (Mark Ellipsis) e = refl
ellipsis_one t e = absurd cc

pub closed_one : (t : Lexeme) → is_closed t ≡ true → t ≡ Mark CloseBrace
closed_one (Mark CloseBrace) e = refl
closed_one t e = absurd cc

abbrev pub is_dot : Lexeme → Bool
is_dot (Mark Dot) = true
is_dot t = false

pub dot_one : (t : Lexeme) → is_dot t ≡ true → t ≡ Mark Dot
dot_one (Mark Dot) e = refl
dot_one t e = absurd cc

abbrev pub is_minus : Lexeme → Bool
is_minus (Mark Minus) = true
is_minus t = false

pub minus_one : (t : Lexeme) → is_minus t ≡ true → t ≡ Mark Minus
minus_one (Mark Minus) e = refl
minus_one t e = absurd cc

abbrev pub is_from : Lexeme → Bool
is_from (Word From) = true
is_from t = false

pub from_one : (t : Lexeme) → is_from t ≡ true → t ≡ Word From
from_one (Word From) e = refl
from_one t e = absurd cc

-- the reader of a number
unfoldable pub digits_at : Reader ℕ
digits_at (Number n ∷ rest) = Ok (n, rest)
digits_at ts = stop ts

pub digits_is : IsKind Number is_number digits_at
unfolding digits_at
digits_is = record { yes = λ x. refl; one = one; nil = refl; hit = λ x ts. refl; miss = miss }
  where
    one : (t : Lexeme) → is_number t ≡ true → (x : ℕ) × (t ≡ Number x)
    one (Number x) e = (x, refl)
    one t e = absurd cc

    miss : (t : Lexeme) (ts : List Lexeme) → is_number t ≡ false → digits_at (t ∷ ts) ≡ stop (t ∷ ts)
    miss (Number x) ts e = absurd cc
    miss t ts e = refl
