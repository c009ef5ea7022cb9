-- Reading values from left to right (X.680, clauses 17 to 33 and 41).
use Rattle.std.specs.Prelude.{ℕ, zero, suc, List, [], ◌∷◌, Option, Some, None, Bool, true, false, Ok}
use Rattle.text.specs.declared.token.Mark.TheVariants.{Comma, Colon, Dot, Minus, OpenBrace, CloseBrace}
use Rattle.text.specs.declared.reserved.Word.TheVariants.{True, False, Null}
use Rattle.grammar.specs.Lexeme.{Lexeme, TypeRef, Ident, Number, BString, HString, CString, Word, Mark}
use Rattle.grammar.specs.Reading.{Read, Reader, ◌>>=◌, stop, closed_at, listed_at, named_at, fitting, opened}
use Rattle.trees.specs.declared.location.Reference.{Reference}
use Rattle.trees.specs.Names.{reference_module, reference_name}
use Rattle.trees.specs.Values.{Name, Tree, yes, no, null, binary, hex, chars, reference, chosen, nothing, numbers, items, fields, trees, named_trees}
use Rattle.notation.specs.Value.{positive, negative}

-- the number after a minus
unfoldable pub negative_at : Reader Tree
negative_at (Number n ∷ rest) = Ok (negative n, rest)
negative_at ts = stop ts

-- the module's name, if one is given, and the name of the value
abbrev pub named_by : Reference → Option Name × Name
named_by r = (reference_module r, reference_name r)

-- what comes after a module's name and a dot
unfoldable pub ref_name_at : Name → Reader (Option Name × Name)
ref_name_at m (Ident x ∷ rest) = Ok ((Some m, x), rest)
ref_name_at m ts = stop ts

-- what comes after a module's name
unfoldable pub ref_dot_at : Name → Reader (Option Name × Name)
ref_dot_at m (Mark Dot ∷ rest) = ref_name_at m rest
ref_dot_at m ts = stop ts

-- the value that is a reference by this name
abbrev pub referred : Read (Option Name × Name) → Read Tree
referred r = r >>= λ p. Ok (reference p.0.0 p.0.1, p.1)

unfoldable pub next_number : List Lexeme → Option (ℕ × List Lexeme)
next_number (Number n ∷ rest) = Some (n, rest)
next_number ts = None

-- one or more values with commas between, up to the closing brace
unfoldable pub items_at : Reader Tree → Reader Tree
items_at read ts = do
  vs ← listed_at read ts
  end ← closed_at vs.1
  Ok (items (trees vs.0), end.1)

-- one or more values, each after its identifier, with commas between, up to the closing brace
unfoldable pub fields_at : Reader Tree → Reader Tree
fields_at read ts = do
  ms ← listed_at (named_at read) ts
  end ← closed_at ms.1
  Ok (fields (named_trees ms.0), end.1)

-- after an identifier, a value ends before this lexeme or goes on with it
unfoldable pub follows_name : List Lexeme → Bool
follows_name (Mark Comma ∷ rest) = true
follows_name (Mark Colon ∷ rest) = true
follows_name (Mark CloseBrace ∷ rest) = true
follows_name ts = false

-- what comes after an open brace if an identifier is first: values, if the flag says so, or else values after
-- identifiers
unfoldable pub by_name_at : Bool → Reader Tree → Reader Tree
by_name_at true read ts = items_at read ts
by_name_at false read ts = fields_at read ts

-- fits: the test that numbers without a minus must pass
module _ (fits : ℕ → Bool) where
  -- any number of numbers, one after the other, without commas
  unfoldable pub numbers_at : Reader (List ℕ)
  numbers_at (Number n ∷ rest) =
      fitting (fits n) (Number n ∷ rest) (numbers_at rest >>= λ ns. Ok (n ∷ ns.0, ns.1))
  numbers_at ts = Ok ([], ts)

  -- what comes after two numbers in braces
  unfoldable pub two_numbers_at : ℕ → ℕ → Reader Tree
  two_numbers_at a b ts = do
    ns ← numbers_at ts
    end ← closed_at ns.1
    Ok (numbers (a ∷ b ∷ ns.0), end.1)

  -- what comes after the first number in braces
  unfoldable pub by_number_at : Reader Tree → ℕ → Reader Tree
  by_number_at read a (Number b ∷ rest) = fitting (fits b) (Number b ∷ rest) (two_numbers_at a b rest)
  by_number_at read a ts = items_at read (Number a ∷ ts)

  -- what comes after an open brace
  unfoldable pub braced_at : Reader Tree → Reader Tree
  braced_at read (Mark CloseBrace ∷ rest) = Ok (nothing, rest)
  braced_at read (Number a ∷ rest) = fitting (fits a) (Number a ∷ rest) (by_number_at read a rest)
  braced_at read (Ident x ∷ rest) = by_name_at (follows_name rest) read (Ident x ∷ rest)
  braced_at read ts = items_at read ts

  -- what comes after identifier x: a colon and the value of alternative x, if n more parts may be open; or nothing, and
  -- x is a reference
  unfoldable pub alternative_at : ℕ → Reader Tree → List ℕ → Reader Tree
  alternative_at n read x (Mark Colon ∷ rest) =
      opened n (Mark Colon ∷ rest) (read rest >>= λ v. Ok (chosen x v.0, v.1))
  alternative_at n read x ts = Ok (reference None x, ts)

  -- n: how many more braces and alternatives may be open; read reads a value inside
  unfoldable pub step_at : ℕ → Reader Tree → Reader Tree
  step_at n read (Word True ∷ rest) = Ok (yes, rest)
  step_at n read (Word False ∷ rest) = Ok (no, rest)
  step_at n read (Word Null ∷ rest) = Ok (null, rest)
  step_at n read (Number m ∷ rest) = fitting (fits m) (Number m ∷ rest) (Ok (positive m, rest))
  step_at n read (Mark Minus ∷ rest) = negative_at rest
  step_at n read (BString b ∷ rest) = Ok (binary b, rest)
  step_at n read (HString h ∷ rest) = Ok (hex h, rest)
  step_at n read (CString c ∷ rest) = Ok (chars c, rest)
  step_at n read (TypeRef m ∷ rest) = referred (ref_dot_at m rest)
  step_at n read (Ident x ∷ rest) = alternative_at n read x rest
  step_at n read (Mark OpenBrace ∷ rest) = opened n (Mark OpenBrace ∷ rest) (braced_at read rest)
  step_at n read ts = stop ts

  -- a value, with at most n braces and alternatives nested in each other
  unfoldable pub value_at : ℕ → Reader Tree
  value_at zero = step_at zero stop
  value_at (suc n) = step_at (suc n) (value_at n)
