-- The words and marks of which types consist.
use Rattle.std.proofs.Common.{◌≡◌, ℕ, Bool, true, false, List, [], ◌∷◌, Ok, refl}
use Rattle.text.specs.declared.token.Mark.TheVariants.{Dot, Minus, OpenBracket, CloseBracket}
use Rattle.text.specs.declared.reserved.Word.TheVariants as words
use Rattle.grammar.specs.Lexeme.{Lexeme, Number, Word, Mark}
use Rattle.grammar.specs.Grammar.{token, only}
use Rattle.grammar.specs.Reading.{Limit, Reader, stop}
use Rattle.grammar.specs.Lists.{no_lexeme}
use Rattle.grammar.specs.Parts.{IsKind}
use Rattle.grammar.specs.Rules.{Owes, rule_token, rule_read, is_number, one_at, one_is}
use Rattle.type_parts.specs.PlainReading.{string_at, identifier_at, bracket_at}

abbrev pub is_object_word : Lexeme → Bool
is_object_word (Word words.Object) = true
is_object_word t = false

pub object_word_one : (t : Lexeme) → is_object_word t ≡ true → t ≡ Word words.Object
object_word_one (Word words.Object) e = refl
object_word_one t e = absurd cc

abbrev pub is_identifier_word : Lexeme → Bool
is_identifier_word (Word words.Identifier) = true
is_identifier_word t = false

pub identifier_word_one : (t : Lexeme) → is_identifier_word t ≡ true → t ≡ Word words.Identifier
identifier_word_one (Word words.Identifier) e = refl
identifier_word_one t e = absurd cc

abbrev pub is_octet_word : Lexeme → Bool
is_octet_word (Word words.Octet) = true
is_octet_word t = false

pub octet_word_one : (t : Lexeme) → is_octet_word t ≡ true → t ≡ Word words.Octet
octet_word_one (Word words.Octet) e = refl
octet_word_one t e = absurd cc

abbrev pub is_string_word : Lexeme → Bool
is_string_word (Word words.String) = true
is_string_word t = false

pub string_word_one : (t : Lexeme) → is_string_word t ≡ true → t ≡ Word words.String
string_word_one (Word words.String) e = refl
string_word_one t e = absurd cc

abbrev pub is_integer_word : Lexeme → Bool
is_integer_word (Word words.Integer) = true
is_integer_word t = false

pub integer_word_one : (t : Lexeme) → is_integer_word t ≡ true → t ≡ Word words.Integer
integer_word_one (Word words.Integer) e = refl
integer_word_one t e = absurd cc

abbrev pub is_bit_word : Lexeme → Bool
is_bit_word (Word words.Bit) = true
is_bit_word t = false

pub bit_word_one : (t : Lexeme) → is_bit_word t ≡ true → t ≡ Word words.Bit
bit_word_one (Word words.Bit) e = refl
bit_word_one t e = absurd cc

abbrev pub is_enumerated_word : Lexeme → Bool
is_enumerated_word (Word words.Enumerated) = true
is_enumerated_word t = false

pub enumerated_word_one : (t : Lexeme) → is_enumerated_word t ≡ true → t ≡ Word words.Enumerated
enumerated_word_one (Word words.Enumerated) e = refl
enumerated_word_one t e = absurd cc

abbrev pub is_choice_word : Lexeme → Bool
is_choice_word (Word words.Choice) = true
is_choice_word t = false

pub choice_word_one : (t : Lexeme) → is_choice_word t ≡ true → t ≡ Word words.Choice
choice_word_one (Word words.Choice) e = refl
choice_word_one t e = absurd cc

abbrev pub is_sequence_word : Lexeme → Bool
is_sequence_word (Word words.Sequence) = true
is_sequence_word t = false

pub sequence_word_one : (t : Lexeme) → is_sequence_word t ≡ true → t ≡ Word words.Sequence
sequence_word_one (Word words.Sequence) e = refl
sequence_word_one t e = absurd cc

abbrev pub is_set_word : Lexeme → Bool
is_set_word (Word words.Set) = true
is_set_word t = false

pub set_word_one : (t : Lexeme) → is_set_word t ≡ true → t ≡ Word words.Set
set_word_one (Word words.Set) e = refl
set_word_one t e = absurd cc

abbrev pub is_of_word : Lexeme → Bool
is_of_word (Word words.Of) = true
is_of_word t = false

pub of_word_one : (t : Lexeme) → is_of_word t ≡ true → t ≡ Word words.Of
of_word_one (Word words.Of) e = refl
of_word_one t e = absurd cc

abbrev pub is_optional_word : Lexeme → Bool
is_optional_word (Word words.Optional) = true
is_optional_word t = false

pub optional_word_one : (t : Lexeme) → is_optional_word t ≡ true → t ≡ Word words.Optional
optional_word_one (Word words.Optional) e = refl
optional_word_one t e = absurd cc

abbrev pub is_default_word : Lexeme → Bool
is_default_word (Word words.Default) = true
is_default_word t = false

pub default_word_one : (t : Lexeme) → is_default_word t ≡ true → t ≡ Word words.Default
default_word_one (Word words.Default) e = refl
default_word_one t e = absurd cc

abbrev pub is_implicit_word : Lexeme → Bool
is_implicit_word (Word words.Implicit) = true
is_implicit_word t = false

pub implicit_word_one : (t : Lexeme) → is_implicit_word t ≡ true → t ≡ Word words.Implicit
implicit_word_one (Word words.Implicit) e = refl
implicit_word_one t e = absurd cc

abbrev pub is_explicit_word : Lexeme → Bool
is_explicit_word (Word words.Explicit) = true
is_explicit_word t = false

pub explicit_word_one : (t : Lexeme) → is_explicit_word t ≡ true → t ≡ Word words.Explicit
explicit_word_one (Word words.Explicit) e = refl
explicit_word_one t e = absurd cc

abbrev pub is_application_word : Lexeme → Bool
is_application_word (Word words.Application) = true
is_application_word t = false

pub application_word_one : (t : Lexeme) → is_application_word t ≡ true → t ≡ Word words.Application
application_word_one (Word words.Application) e = refl
application_word_one t e = absurd cc

abbrev pub is_private_word : Lexeme → Bool
is_private_word (Word words.Private) = true
is_private_word t = false

pub private_word_one : (t : Lexeme) → is_private_word t ≡ true → t ≡ Word words.Private
private_word_one (Word words.Private) e = refl
private_word_one t e = absurd cc

abbrev pub is_dot : Lexeme → Bool
is_dot (Mark Dot) = true
is_dot t = false

pub dot_one : (t : Lexeme) → is_dot t ≡ true → t ≡ Mark Dot
dot_one (Mark Dot) e = refl
dot_one t e = absurd cc

abbrev pub is_minus : Lexeme → Bool
is_minus (Mark Minus) = true
is_minus t = false

pub minus_one : (t : Lexeme) → is_minus t ≡ true → t ≡ Mark Minus
minus_one (Mark Minus) e = refl
minus_one t e = absurd cc

abbrev pub is_open_bracket : Lexeme → Bool
is_open_bracket (Mark OpenBracket) = true
is_open_bracket t = false

pub open_bracket_one : (t : Lexeme) → is_open_bracket t ≡ true → t ≡ Mark OpenBracket
open_bracket_one (Mark OpenBracket) e = refl
open_bracket_one t e = absurd cc

abbrev pub is_close_bracket : Lexeme → Bool
is_close_bracket (Mark CloseBracket) = true
is_close_bracket t = false

pub close_bracket_one : (t : Lexeme) → is_close_bracket t ≡ true → t ≡ Mark CloseBracket
close_bracket_one (Mark CloseBracket) e = refl
close_bracket_one t e = absurd cc

unfoldable pub digits_at : Reader ℕ
digits_at (Number n ∷ rest) = Ok (n, rest)
digits_at ts = stop ts

digits_is : IsKind Number is_number digits_at
unfolding digits_at
digits_is = record { yes = λ x. refl; one = one; nil = refl; hit = λ x ts. refl; miss = miss }
  where
    one : (t : Lexeme) → is_number t ≡ true → (x : ℕ) × (t ≡ Number x)
    one (Number x) e = (x, refl)
    one t e = absurd cc

    miss : (t : Lexeme) (ts : List Lexeme) → is_number t ≡ false → digits_at (t ∷ ts) ≡ stop (t ∷ ts)
    miss (Number x) ts e = absurd cc
    miss t ts e = refl

string_same : (ts : List Lexeme) → one_at is_string_word ts ≡ string_at ts
unfolding string_at
string_same [] = refl
string_same (Word words.String ∷ ts) = refl
string_same (t ∷ ts) = refl

identifier_same : (ts : List Lexeme) → one_at is_identifier_word ts ≡ identifier_at ts
unfolding identifier_at
identifier_same [] = refl
identifier_same (Word words.Identifier ∷ ts) = refl
identifier_same (t ∷ ts) = refl

bracket_same : (ts : List Lexeme) → one_at is_close_bracket ts ≡ bracket_at ts
unfolding bracket_at
bracket_same [] = refl
bracket_same (Mark CloseBracket ∷ ts) = refl
bracket_same (t ∷ ts) = refl

module _ {s f : Type 0} {over : Limit → ℕ} {within : Limit → Type 0} where
  pub rule_object_word :
      Owes s f over within (only (Word words.Object)) is_object_word no_lexeme (one_at is_object_word)
  rule_object_word = rule_token (one_is (Word words.Object) is_object_word refl object_word_one)

  pub rule_identifier_word :
      Owes s f over within (only (Word words.Identifier)) is_identifier_word no_lexeme (one_at is_identifier_word)
  rule_identifier_word = rule_token (one_is (Word words.Identifier) is_identifier_word refl identifier_word_one)

  pub rule_octet_word : Owes s f over within (only (Word words.Octet)) is_octet_word no_lexeme (one_at is_octet_word)
  rule_octet_word = rule_token (one_is (Word words.Octet) is_octet_word refl octet_word_one)

  pub rule_string_word :
      Owes s f over within (only (Word words.String)) is_string_word no_lexeme (one_at is_string_word)
  rule_string_word = rule_token (one_is (Word words.String) is_string_word refl string_word_one)

  pub rule_integer_word :
      Owes s f over within (only (Word words.Integer)) is_integer_word no_lexeme (one_at is_integer_word)
  rule_integer_word = rule_token (one_is (Word words.Integer) is_integer_word refl integer_word_one)

  pub rule_bit_word : Owes s f over within (only (Word words.Bit)) is_bit_word no_lexeme (one_at is_bit_word)
  rule_bit_word = rule_token (one_is (Word words.Bit) is_bit_word refl bit_word_one)

  pub rule_enumerated_word :
      Owes s f over within (only (Word words.Enumerated)) is_enumerated_word no_lexeme (one_at is_enumerated_word)
  rule_enumerated_word = rule_token (one_is (Word words.Enumerated) is_enumerated_word refl enumerated_word_one)

  pub rule_choice_word :
      Owes s f over within (only (Word words.Choice)) is_choice_word no_lexeme (one_at is_choice_word)
  rule_choice_word = rule_token (one_is (Word words.Choice) is_choice_word refl choice_word_one)

  pub rule_sequence_word :
      Owes s f over within (only (Word words.Sequence)) is_sequence_word no_lexeme (one_at is_sequence_word)
  rule_sequence_word = rule_token (one_is (Word words.Sequence) is_sequence_word refl sequence_word_one)

  pub rule_set_word : Owes s f over within (only (Word words.Set)) is_set_word no_lexeme (one_at is_set_word)
  rule_set_word = rule_token (one_is (Word words.Set) is_set_word refl set_word_one)

  pub rule_optional_word :
      Owes s f over within (only (Word words.Optional)) is_optional_word no_lexeme (one_at is_optional_word)
  rule_optional_word = rule_token (one_is (Word words.Optional) is_optional_word refl optional_word_one)

  pub rule_default_word :
      Owes s f over within (only (Word words.Default)) is_default_word no_lexeme (one_at is_default_word)
  rule_default_word = rule_token (one_is (Word words.Default) is_default_word refl default_word_one)

  pub rule_implicit_word :
      Owes s f over within (only (Word words.Implicit)) is_implicit_word no_lexeme (one_at is_implicit_word)
  rule_implicit_word = rule_token (one_is (Word words.Implicit) is_implicit_word refl implicit_word_one)

  pub rule_explicit_word :
      Owes s f over within (only (Word words.Explicit)) is_explicit_word no_lexeme (one_at is_explicit_word)
  rule_explicit_word = rule_token (one_is (Word words.Explicit) is_explicit_word refl explicit_word_one)

  pub rule_application_word :
      Owes s f over within (only (Word words.Application)) is_application_word no_lexeme (one_at is_application_word)
  rule_application_word = rule_token (one_is (Word words.Application) is_application_word refl application_word_one)

  pub rule_private_word :
      Owes s f over within (only (Word words.Private)) is_private_word no_lexeme (one_at is_private_word)
  rule_private_word = rule_token (one_is (Word words.Private) is_private_word refl private_word_one)

  pub rule_dot : Owes s f over within (only (Mark Dot)) is_dot no_lexeme (one_at is_dot)
  rule_dot = rule_token (one_is (Mark Dot) is_dot refl dot_one)

  pub rule_minus : Owes s f over within (only (Mark Minus)) is_minus no_lexeme (one_at is_minus)
  rule_minus = rule_token (one_is (Mark Minus) is_minus refl minus_one)

  pub rule_close_bracket :
      Owes s f over within (only (Mark CloseBracket)) is_close_bracket no_lexeme (one_at is_close_bracket)
  rule_close_bracket = rule_token (one_is (Mark CloseBracket) is_close_bracket refl close_bracket_one)

  pub rule_string : Owes s f over within (only (Word words.String)) is_string_word no_lexeme string_at
  rule_string = rule_read string_at string_same rule_string_word

  pub rule_identifier : Owes s f over within (only (Word words.Identifier)) is_identifier_word no_lexeme identifier_at
  rule_identifier = rule_read identifier_at identifier_same rule_identifier_word

  pub rule_bracket : Owes s f over within (only (Mark CloseBracket)) is_close_bracket no_lexeme bracket_at
  rule_bracket = rule_read bracket_at bracket_same rule_close_bracket

  pub rule_digits : Owes s f over within (token Number) is_number no_lexeme digits_at
  rule_digits = rule_token digits_is
