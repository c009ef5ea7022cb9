-- What is returned for the tokens from a place on, and which words and marks are refused (X.680, clauses 12.37 and
-- 12.38).
use Rattle.std.specs.Prelude.{◌≡◌, ℕ, ⊤, Bool, true, false, List, Option, Some, None, slice_get, if◌then◌else◌}
use Rattle.text.specs.declared.token.Mark.{Mark as Mark'}
use Rattle.text.specs.declared.token.Mark.TheVariants.{Caret, Less, Exclamation, At, Ampersand, Ellipsis}
use Rattle.text.specs.declared.reserved.Word.{Word as Word'}
use Rattle.text.specs.declared.reserved.Word.TheVariants as words
use Rattle.text.specs.declared.token.Token.{Token}
use Rattle.grammar.specs.Lexeme.{Lexeme, Word, Mark, lexemes}
use Rattle.grammar.specs.Places.{Limits, Limited, bounded, free, IsRead, Ends, PassesLimit}
use Rattle.notation.specs.declared.syntax_fault.SyntaxFault.{SyntaxFault}
use Rattle.notation.specs.declared.syntax_fault.SyntaxFault.TheVariants as faults
use Rattle.parser_combinators.specs.Given.{limit_of}

-- the words of constructs that this compiler leaves out
abbrev pub is_refused_word : Word' → Bool
is_refused_word words.Real = true
is_refused_word words.GeneralizedTime = true
is_refused_word words.UtcTime = true
is_refused_word words.External = true
is_refused_word words.Embedded = true
is_refused_word words.Character = true
is_refused_word words.OidIri = true
is_refused_word words.ObjectDescriptor = true
is_refused_word words.BmpString = true
is_refused_word words.UniversalString = true
is_refused_word words.TeletexString = true
is_refused_word words.T61String = true
is_refused_word words.GeneralString = true
is_refused_word words.GraphicString = true
is_refused_word words.VideotexString = true
is_refused_word words.Class = true
is_refused_word words.TypeIdentifier = true
is_refused_word words.AbstractSyntax = true
is_refused_word words.Instance = true
is_refused_word words.Universal = true
is_refused_word words.Components = true
is_refused_word words.With = true
is_refused_word words.Containing = true
is_refused_word words.Pattern = true
is_refused_word words.Includes = true
is_refused_word words.Intersection = true
is_refused_word words.Except = true
is_refused_word words.Extensibility = true
is_refused_word words.PlusInfinity = true
is_refused_word words.MinusInfinity = true
is_refused_word w = false

-- the marks of constructs that this compiler leaves out
abbrev pub is_refused_mark : Mark' → Bool
is_refused_mark Caret = true
is_refused_mark Less = true
is_refused_mark Exclamation = true
is_refused_mark At = true
is_refused_mark Ampersand = true
is_refused_mark Ellipsis = true
is_refused_mark m = false

-- whether the lexeme is a word or a mark of a construct that this compiler leaves out
abbrev pub is_refused : Lexeme → Bool
is_refused (Word w) = is_refused_word w
is_refused (Mark m) = is_refused_mark m
is_refused t = false

-- whether there is a lexeme, and it is a word or a mark of a construct that this compiler leaves out
abbrev pub is_refused_at : Option Lexeme → Bool
is_refused_at (Some t) = is_refused t
is_refused_at None = false

-- the fault if lexeme i is the first with which nothing can go on
abbrev pub unexpected : List Lexeme → ℕ → SyntaxFault
unexpected ts i = if is_refused_at (slice_get ts i) then faults.OutOfProfile i else faults.Unexpected i

-- The tokens from a place to before end are v, in which at most n braces and alternatives are nested in each other.
abbrev pub IsThere : {A : Type 0} → Limited A → ℕ → List ℕ → List Token → ℕ → A → ℕ → Type 0
IsThere g n x ts place v end = IsRead (g (bounded n)) (free g) (lexemes x ts) place v end

-- The fault is the right one for what a grammar says of the lexemes from start on, within these limits; it has the
-- right place.
abbrev pub IsRightNotationFault : {A : Type 0} → Limited A → List Lexeme → ℕ → Limits → SyntaxFault → Type 0
IsRightNotationFault g ts start a faults.Memory = ⊤
IsRightNotationFault g ts start a (faults.Unexpected i) = Ends g a ts start i × (is_refused_at (slice_get ts i) ≡ false)
IsRightNotationFault g ts start a (faults.OutOfProfile i) = Ends g a ts start i
    × (is_refused_at (slice_get ts i) ≡ true)
IsRightNotationFault g ts start a (faults.Limit l i) = PassesLimit g a ts start i (limit_of l)
