-- Reading the parts of types that hold no type, from left to right.
use Rattle.std.specs.Prelude.{◌≡◌, ◌<◌, ◌^◌, ℕ, ℤ, Bool, true, false, nat_lt, List, ◌∷◌, length, Option, Some, None, Ok, Err}
use Rattle.std.proofs.Common.{refl, arith}
use Rattle.std.proofs.lemmas.Bool.Decides.{nat_tests}
use Rattle.text.specs.declared.token.Mark.TheVariants.{Dot, Minus, OpenParenthesis, CloseBracket}
use Rattle.text.specs.declared.reserved.Word.TheVariants as words
use Rattle.asn_base.specs.declared.tag.Tag.{Tag}
use Rattle.grammar.specs.Lexeme.{Lexeme, TypeRef, Number, Word, Mark}
use Rattle.grammar.specs.Openings.{is_lbrace}
use Rattle.grammar.specs.Parts.{perhaps}
use Rattle.grammar.specs.Reading.{TagNumber as TagLimit, Beyond, Read, Reader, ◌>>=◌, stop, fitting, is_open, parens_at, braces_at, listed_at, named_at, extensible_at, many_at}
use Rattle.grammar.specs.Rules.{bor, number_at}
use Rattle.trees.specs.Values.{Name, Tree}
use Rattle.trees.specs.Constraints.{ConstraintTree}
use Rattle.notation.specs.ConstraintReading.{size_at, constraint_at}
use Rattle.trees.specs.declared.types.Keyword.{Keyword}
use Rattle.trees.specs.declared.types.Keyword.TheVariants as keywords
use Rattle.trees.specs.Types.{PresenceTree, mandatory, optional as may_be_absent, default, Plain, an_octet_string, an_object_identifier, FormTree, a_reference}
use Rattle.type_parts.specs.PlainGrammar.{type_of_word, integer_with, bits_with, enumerated_of, positive_number, negative_number, TagNumber, TagClass, application, private, context, tag_of}

-- ---- words and names

unfoldable pub string_at : Reader (Unit {0})
string_at (Word words.String ∷ rest) = Ok (tt, rest)
string_at ts = stop ts

unfoldable pub identifier_at : Reader (Unit {0})
identifier_at (Word words.Identifier ∷ rest) = Ok (tt, rest)
identifier_at ts = stop ts

-- the type that a word stands for, if it stands for one
abbrev pub known : Option Plain → List Lexeme → List Lexeme → Read Plain
known (Some t) ts rest = Ok (t, rest)
known None ts rest = stop ts

unfoldable pub one_word_at : Reader Plain
one_word_at (Word w ∷ rest) = known (type_of_word w) (Word w ∷ rest) rest
one_word_at ts = stop ts

-- what comes after a dot
unfoldable pub type_in_at : Name → Reader FormTree
type_in_at m (TypeRef x ∷ rest) = Ok (a_reference (Some m) x, rest)
type_in_at m ts = stop ts

-- what comes after a name
unfoldable pub ref_at : Name → Reader FormTree
ref_at x (Mark Dot ∷ rest) = type_in_at x rest
ref_at x ts = Ok (a_reference None x, ts)

unfoldable pub keyword_at : Reader Keyword
keyword_at (Word words.Implicit ∷ rest) = Ok (keywords.Implicit, rest)
keyword_at (Word words.Explicit ∷ rest) = Ok (keywords.Explicit, rest)
keyword_at ts = Ok (keywords.Absent, ts)

-- ---- what comes after a member's type; value reads a value

unfoldable pub presence_at : Reader Tree → Reader PresenceTree
presence_at value (Word words.Optional ∷ rest) = Ok (may_be_absent, rest)
presence_at value (Word words.Default ∷ rest) = value rest >>= λ v. Ok (default v.0, v.1)
presence_at value ts = Ok (mandatory, ts)

-- ---- numbers of tags

pub below : (n : ℕ) → nat_lt n 2147483648 ≡ true → n < 2147483648
below n e = grind (arith, nat_tests)

-- a tag's number, which may be below 2 to the 31 or not
abbrev pub by_limit : (unlimited : Bool) (n : ℕ) (small : Bool) → nat_lt n 2147483648 ≡ small → List Lexeme
    → Read TagNumber
by_limit unlimited n true e rest = Ok ((n, below n e), rest)
by_limit true n false e rest = stop rest
by_limit false n false e rest = Err (Beyond TagLimit (length (Number n ∷ rest)))

unfoldable pub bracket_at : Reader (Unit {0})
bracket_at (Mark CloseBracket ∷ rest) = Ok (tt, rest)
bracket_at ts = stop ts

-- only the numbers below 2 to the 31
abbrev pub low : Bool → ℕ → List Lexeme → Read ℕ
low true n rest = Ok (n, rest)
low false n rest = Err (Beyond TagLimit (length (Number n ∷ rest)))

unfoldable pub low_number_at : Reader ℕ
low_number_at (Number n ∷ rest) = low (nat_lt n 2147483648) n rest
low_number_at ts = stop ts

unfoldable pub low_end_at : Reader ℕ
low_end_at ts = low_number_at ts >>= λ n. bracket_at n.1 >>= λ e. Ok (n.0, e.1)

-- the class of a tag, and what comes after the word that names it
unfoldable pub class_at : List Lexeme → TagClass × List Lexeme
class_at (Word words.Application ∷ rest) = (application, rest)
class_at (Word words.Private ∷ rest) = (private, rest)
class_at ts = (context, ts)

-- the numbers of tags that pass no limit: those below 2 to the 31, and all if numbers are not limited to 2 to the 127
abbrev pub tag_fits : (ℕ → Bool) → ℕ → Bool
tag_fits fits n = bor (nat_lt n 2147483648) (fits (2 ^ 127))

-- fits: the test that numbers without a minus must pass
module _ (fits : ℕ → Bool) where
  unfoldable pub tag_number_at : Reader TagNumber
  tag_number_at (Number n ∷ rest) = by_limit (fits (2 ^ 127)) n (nat_lt n 2147483648) refl rest
  tag_number_at ts = stop ts

  unfoldable pub tag_end_at : Reader TagNumber
  tag_end_at ts = tag_number_at ts >>= λ n. bracket_at n.1 >>= λ e. Ok (n.0, e.1)

  -- what comes after an open bracket
  unfoldable pub tag_at : Reader Tag
  tag_at ts = tag_end_at (class_at ts).1 >>= λ n. Ok (tag_of (class_at ts).0 n.0, n.1)

  -- ---- names with numbers

  unfoldable pub negative_at : Reader ℤ
  negative_at (Number n ∷ rest) = Ok (negative_number n, rest)
  negative_at ts = stop ts

  unfoldable pub signed_at : Reader ℤ
  signed_at (Number n ∷ rest) = fitting (fits n) (Number n ∷ rest) (Ok (positive_number n, rest))
  signed_at (Mark Minus ∷ rest) = negative_at rest
  signed_at ts = stop ts

  abbrev pub named_number_at : Reader (Name × ℤ)
  named_number_at = named_at (parens_at signed_at)

  abbrev pub named_bit_at : Reader (Name × ℕ)
  named_bit_at = named_at (parens_at (number_at fits))

  abbrev pub item_at : Reader (Name × Option ℤ)
  item_at = named_at (perhaps is_open (parens_at signed_at))

  -- what comes after INTEGER, if n more braces may be open
  unfoldable pub integer_at : ℕ → Reader Plain
  integer_at n ts =
      perhaps is_lbrace (braces_at n (listed_at named_number_at)) ts >>= λ ns. Ok (integer_with ns.0, ns.1)

  -- what comes after BIT STRING
  unfoldable pub bits_at : ℕ → Reader Plain
  bits_at n ts = perhaps is_lbrace (braces_at n (listed_at named_bit_at)) ts >>= λ bs. Ok (bits_with bs.0, bs.1)

  -- what comes after BIT
  unfoldable pub bit_string_at : ℕ → Reader Plain
  bit_string_at n ts = string_at ts >>= λ s. bits_at n s.1

  -- what comes after ENUMERATED
  unfoldable pub enumerated_at : ℕ → Reader Plain
  enumerated_at n ts = braces_at n (extensible_at item_at item_at) ts >>= λ e. Ok (enumerated_of e.0, e.1)

  -- a type that holds no type
  unfoldable pub simple_at : ℕ → Reader Plain
  simple_at n (Word words.Object ∷ rest) = identifier_at rest >>= λ i. Ok (an_object_identifier, i.1)
  simple_at n (Word words.Octet ∷ rest) = string_at rest >>= λ s. Ok (an_octet_string, s.1)
  simple_at n (Word words.Integer ∷ rest) = integer_at n rest
  simple_at n (Word words.Bit ∷ rest) = bit_string_at n rest
  simple_at n (Word words.Enumerated ∷ rest) = enumerated_at n rest
  simple_at n ts = one_word_at ts

  -- the constraints after a type, as many as there are
  unfoldable pub constraints_at : Reader (List ConstraintTree)
  constraints_at ts = many_at is_open (constraint_at fits) (length ts) ts

  -- the size of a list
  unfoldable pub some_size_at : Reader (Option ConstraintTree)
  some_size_at ts = size_at fits ts >>= λ s. Ok (Some s.0, s.1)

  unfoldable pub size_in_parens_at : Reader (Option ConstraintTree)
  size_in_parens_at ts = parens_at (size_at fits) ts >>= λ s. Ok (Some s.0, s.1)

  unfoldable pub list_size_at : Reader (Option ConstraintTree)
  list_size_at (Word words.Size ∷ rest) = some_size_at (Word words.Size ∷ rest)
  list_size_at (Mark OpenParenthesis ∷ rest) = size_in_parens_at (Mark OpenParenthesis ∷ rest)
  list_size_at ts = Ok (None, ts)
