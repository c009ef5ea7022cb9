-- Reading constraints from left to right.
use Rattle.std.specs.Prelude.{ℕ, Bool, true, false, List, ◌∷◌, length, Option, Some, None, Ok}
use Rattle.text.specs.declared.token.Mark.TheVariants.{Range, Bar, Minus, Comma, Ellipsis}
use Rattle.text.specs.declared.reserved.Word.TheVariants.{From, Size, Union, Min, Max}
use Rattle.grammar.specs.Lexeme.{Lexeme, TypeRef, Ident, Number, CString, Word, Mark}
use Rattle.grammar.specs.Reading.{Read, Reader, ◌>>=◌, stop, parens_at, fitting, many_at}
use Rattle.trees.specs.Values.{Name}
use Rattle.trees.specs.Constraints.{EndTree, name_end, RangeTree, only, between, RangesTree, ConstraintTree, values_in, sizes_in, chars_in}
use Rattle.notation.specs.ConstraintGrammar.{with_marker, positive_end, negative_end}
use Rattle.notation.specs.Reading.{ref_dot_at}

abbrev pub is_union_mark : Lexeme → Bool
is_union_mark (Mark Bar) = true
is_union_mark (Word Union) = true
is_union_mark t = false

unfoldable pub next_union_mark : List Lexeme → Option (List Lexeme)
next_union_mark (Mark Bar ∷ rest) = Some rest
next_union_mark (Word Union ∷ rest) = Some rest
next_union_mark ts = None

unfoldable pub union_mark_then_at : {A : Type 0} → Reader A → Reader A
union_mark_then_at read (Mark Bar ∷ rest) = read rest
union_mark_then_at read (Word Union ∷ rest) = read rest
union_mark_then_at read ts = stop ts

unfoldable pub by_union_mark_at : {A : Type 0} → Reader A → Reader (List A)
by_union_mark_at read ts = do
  x ← read ts
  xs ← many_at is_union_mark (union_mark_then_at read) (length x.1) x.1
  Ok (x.0 ∷ xs.0, xs.1)

-- what comes after ".." between texts
unfoldable pub last_chars_at : List ℕ → Reader (List ℕ × Option (List ℕ))
last_chars_at c (CString d ∷ rest) = Ok ((c, Some d), rest)
last_chars_at c ts = stop ts

-- what comes after a text
unfoldable pub more_chars_at : List ℕ → Reader (List ℕ × Option (List ℕ))
more_chars_at c (Mark Range ∷ rest) = last_chars_at c rest
more_chars_at c ts = Ok ((c, None), ts)

unfoldable pub chars_at : Reader (List ℕ × Option (List ℕ))
chars_at (CString c ∷ rest) = more_chars_at c rest
chars_at ts = stop ts

unfoldable pub from_at : Reader (List (List ℕ × Option (List ℕ)))
from_at (Word From ∷ rest) = parens_at (by_union_mark_at chars_at) rest
from_at ts = stop ts

unfoldable pub minus_at : Reader EndTree
minus_at (Number n ∷ rest) = Ok (negative_end n, rest)
minus_at ts = stop ts

-- an end of a range that is given by this name
abbrev pub named_end : Read (Option Name × Name) → Read EndTree
named_end r = r >>= λ p. Ok (name_end p.0.0 p.0.1, p.1)

-- what comes after the comma of a marker
unfoldable pub ellipsis_at : Reader Bool
ellipsis_at (Mark Ellipsis ∷ rest) = Ok (true, rest)
ellipsis_at ts = stop ts

unfoldable pub marker_at : Reader Bool
marker_at (Mark Comma ∷ rest) = ellipsis_at rest
marker_at ts = Ok (false, ts)

abbrev pub is_size : Lexeme → Bool
is_size (Word Size) = true
is_size t = false

-- fits: the test that numbers without a minus must pass
module _ (fits : ℕ → Bool) where
  unfoldable pub end_at : Reader EndTree
  end_at (Number n ∷ rest) = fitting (fits n) (Number n ∷ rest) (Ok (positive_end n, rest))
  end_at (Mark Minus ∷ rest) = minus_at rest
  end_at (Ident x ∷ rest) = Ok (name_end None x, rest)
  end_at (TypeRef m ∷ rest) = named_end (ref_dot_at m rest)
  end_at ts = stop ts

  unfoldable pub some_end_at : Reader (Option EndTree)
  some_end_at ts = end_at ts >>= λ e. Ok (Some e.0, e.1)

  -- what comes after ".."
  unfoldable pub upper_at : Reader (Option EndTree)
  upper_at (Word Max ∷ rest) = Ok (None, rest)
  upper_at ts = some_end_at ts

  -- what comes after MIN
  unfoldable pub after_min_at : Reader RangeTree
  after_min_at (Mark Range ∷ rest) = upper_at rest >>= λ b. Ok (between None b.0, b.1)
  after_min_at ts = stop ts

  unfoldable pub after_end_at : EndTree → Reader RangeTree
  after_end_at a (Mark Range ∷ rest) = upper_at rest >>= λ b. Ok (between (Some a) b.0, b.1)
  after_end_at a ts = Ok (only a, ts)

  unfoldable pub single_at : Reader RangeTree
  single_at ts = end_at ts >>= λ a. after_end_at a.0 a.1

  unfoldable pub range_at : Reader RangeTree
  range_at (Word Min ∷ rest) = after_min_at rest
  range_at ts = single_at ts

  unfoldable pub ranges_at : Reader RangesTree
  ranges_at ts = do
    rs ← by_union_mark_at range_at ts
    m ← marker_at rs.1
    Ok (with_marker (rs.0, m.0), m.1)

  unfoldable pub size_at : Reader ConstraintTree
  size_at (Word Size ∷ rest) = parens_at ranges_at rest >>= λ x. Ok (sizes_in x.0, x.1)
  size_at ts = stop ts

  unfoldable pub from_in_at : Reader ConstraintTree
  from_in_at ts = from_at ts >>= λ x. Ok (chars_in x.0, x.1)

  unfoldable pub values_in_at : Reader ConstraintTree
  values_in_at ts = ranges_at ts >>= λ x. Ok (values_in x.0, x.1)

  -- what comes after an open parenthesis
  unfoldable pub inside_at : Reader ConstraintTree
  inside_at (Word Size ∷ rest) = size_at (Word Size ∷ rest)
  inside_at (Word From ∷ rest) = from_in_at (Word From ∷ rest)
  inside_at ts = values_in_at ts

  unfoldable pub constraint_at : Reader ConstraintTree
  constraint_at ts = parens_at inside_at ts
