-- Reading from left to right by productions (X.680, clause 5), with the first fault that is met.
use Rattle.std.specs.Prelude.{◌⊎◌, ℕ, zero, suc, List, [], ◌∷◌, ◌++◌, length, Option, Some, None, Bool, true, false, Result, Ok, Err}
use Rattle.std.proofs.Common.{inl, inr}
use Rattle.text.specs.declared.token.Mark.TheVariants.{Colon, Comma, Ellipsis, OpenBrace, CloseBrace, OpenParenthesis, CloseParenthesis, OpenVersion, CloseVersion}
use Rattle.grammar.specs.Lexeme.{Lexeme, Ident, Number, Mark}

-- a limit that a text may pass: on nested parts, on numbers without a minus, or on the numbers of tags (own rule)
pub data Limit : Type 0 where
  Nesting : Limit
  Integer : Limit
  TagNumber : Limit

-- What is wrong, with the number of lexemes from there to the end.
pub data Fault : Type 0 where
  -- no lexeme can continue like this
  Unexpected : ℕ → Fault
  -- a limit is passed
  Beyond : Limit → ℕ → Fault

-- a tree and the lexemes after it, or a fault
abbrev pub Read : Type 0 → Type 0
Read A = Result (A × List Lexeme) Fault

-- a function that reads a tree from the front of lexemes, or finds a fault in them
abbrev pub Reader : Type 0 → Type 0
Reader A = List Lexeme → Read A

infixl 10 ◌>>=◌
abbrev pub ◌>>=◌ : {A B : Type 0} → Result A Fault → (A → Result B Fault) → Result B Fault
(Ok x) >>= f = f x
(Err e) >>= f = Err e

-- the fault that nothing can continue with the first of these lexemes, or that none is left to continue with
abbrev pub stop : {A : Type 0} → List Lexeme → Read A
stop ts = Err (Unexpected (length ts))

-- what is read after parts that are read already
abbrev pub with_front : {A : Type 0} → List A → Read (List A) → Read (List A)
with_front front read = read >>= λ x. Ok (front ++ x.0, x.1)

-- a closing brace
unfoldable pub closed_at : Reader (Unit {0})
closed_at (Mark CloseBrace ∷ rest) = Ok (tt, rest)
closed_at ts = stop ts

unfoldable pub open_at : Reader (Unit {0})
open_at (Mark OpenParenthesis ∷ rest) = Ok (tt, rest)
open_at ts = stop ts

abbrev pub is_open : Lexeme → Bool
is_open (Mark OpenParenthesis) = true
is_open t = false

unfoldable pub close_at : Reader (Unit {0})
close_at (Mark CloseParenthesis ∷ rest) = Ok (tt, rest)
close_at ts = stop ts

unfoldable pub parens_at : {A : Type 0} → Reader A → Reader A
parens_at read ts = do
  o ← open_at ts
  x ← read o.1
  c ← close_at x.1
  Ok (x.0, c.1)

unfoldable pub next_comma : List Lexeme → Option (List Lexeme)
next_comma (Mark Comma ∷ rest) = Some rest
next_comma ts = None

-- The parts after the next commas. At most k of them are read; a caller gives the number of lexemes as k.
unfoldable pub after_commas_at : {A : Type 0} → Reader A → ℕ → Reader (List A)
after_commas_at read (suc k) (Mark Comma ∷ rest) = do
  x ← read rest
  xs ← after_commas_at read k x.1
  Ok (x.0 ∷ xs.0, xs.1)
after_commas_at read k ts = Ok ([], ts)

-- at least one part, with commas between parts
unfoldable pub listed_at : {A : Type 0} → Reader A → Reader (List A)
listed_at read ts = do
  x ← read ts
  xs ← after_commas_at read (length x.1) x.1
  Ok (x.0 ∷ xs.0, xs.1)

-- a name, and then a part
unfoldable pub named_at : {A : Type 0} → Reader A → Reader (List ℕ × A)
named_at read (Ident x ∷ rest) = do
  v ← read rest
  Ok ((x, v.0), v.1)
named_at read ts = stop ts

-- a number for which a test is true, which is the first of these lexemes
abbrev pub fitting : {A : Type 0} → Bool → List Lexeme → Read A → Read A
fitting true ts read = read
fitting false ts read = Err (Beyond Integer (length ts))

-- what comes after a lexeme that opens a nested part, if n more may be open
abbrev pub opened : {A : Type 0} → ℕ → List Lexeme → Read A → Read A
opened zero ts read = Err (Beyond Nesting (length ts))
opened (suc n) ts read = read

-- any number of parts that begin with such a lexeme, at most k
abbrev pub goes_on_if : {A : Type 0} → Bool → List Lexeme → Read (List A) → Read (List A)
goes_on_if true ts read = read
goes_on_if false ts read = Ok ([], ts)

unfoldable pub many_at : {A : Type 0} → (Lexeme → Bool) → Reader A → ℕ → Reader (List A)
many_at begins read (suc k) (t ∷ ts) =
    goes_on_if (begins t) (t ∷ ts) (read (t ∷ ts) >>= λ x. many_at begins read k x.1 >>= λ xs. Ok (x.0 ∷ xs.0, xs.1))
many_at begins read k ts = Ok ([], ts)

-- a part in braces, up to the closing brace
unfoldable pub inside_at : {A : Type 0} → Reader A → Reader A
inside_at read ts = read ts >>= λ x. closed_at x.1 >>= λ c. Ok (x.0, c.1)

unfoldable pub braces_at : {A : Type 0} → ℕ → Reader A → Reader A
braces_at n read (Mark OpenBrace ∷ rest) = opened n (Mark OpenBrace ∷ rest) (inside_at read rest)
braces_at n read ts = stop ts

-- ---- lists with an extension marker

-- the parts before the marker, and those after it, if there is one
abbrev pub Extensible : Type 0 → Type 0 → Type 0
Extensible A B = List A × Option (List B)

unfoldable pub next_marker : List Lexeme → Option (List Lexeme)
next_marker (Mark Ellipsis ∷ rest) = Some rest
next_marker ts = None

-- the parts after the marker
unfoldable pub additions_at : {A B : Type 0} → Reader B → Reader (Extensible A B)
additions_at read ts = after_commas_at read (length ts) ts >>= λ ys. Ok (([], Some ys.0), ys.1)

abbrev pub put : {A B : Type 0} → A → Read (Extensible A B) → Read (Extensible A B)
put x r = r >>= λ e. Ok ((x ∷ e.0.0, e.0.1), e.1)

-- the marker and its parts, or a part and what `more` reads
abbrev pub or_marker : {A B : Type 0} → Reader A → Reader B → Reader (Extensible A B) → Option (List Lexeme)
    → Reader (Extensible A B)
or_marker ra rb more (Some rest) ts = additions_at rb rest
or_marker ra rb more None ts = ra ts >>= λ x. put x.0 (more x.1)

-- What comes after the next commas. At most k of them are passed.
unfoldable pub more_at : {A B : Type 0} → Reader A → Reader B → ℕ → Reader (Extensible A B)
more_at ra rb (suc k) (Mark Comma ∷ rest) = or_marker ra rb (more_at ra rb k) (next_marker rest) rest
more_at ra rb k ts = Ok (([], None), ts)

unfoldable pub extensible_at : {A B : Type 0} → Reader A → Reader B → Reader (Extensible A B)
extensible_at ra rb ts = ra ts >>= λ x. put x.0 (more_at ra rb (length x.1) x.1)

unfoldable pub rootless_at : {A B : Type 0} → Reader A → Reader B → Reader (Extensible A B)
rootless_at ra rb ts = or_marker ra rb (λ us. more_at ra rb (length us) us) (next_marker ts) ts

-- what is read after a root that is read already
abbrev pub with_root : {A B : Type 0} → List A → Read (Extensible A B) → Read (Extensible A B)
with_root front r = r >>= λ e. Ok ((front ++ e.0.0, e.0.1), e.1)

-- ---- version brackets

unfoldable pub colon_at : Reader (Unit {0})
colon_at (Mark Colon ∷ rest) = Ok (tt, rest)
colon_at ts = stop ts

unfoldable pub close_version_at : Reader (Unit {0})
close_version_at (Mark CloseVersion ∷ rest) = Ok (tt, rest)
close_version_at ts = stop ts

-- the number of the brackets, if there is one
unfoldable pub version_at : (ℕ → Bool) → Reader (Unit {0})
version_at fits (Number n ∷ rest) = fitting (fits n) (Number n ∷ rest) (colon_at rest)
version_at fits ts = Ok (tt, ts)

-- the parts after the opening brackets
unfoldable pub version_parts_at : {A : Type 0} → (ℕ → Bool) → Reader A → Reader (A ⊎ List A)
version_parts_at fits read ts = version_at fits ts >>= λ v. listed_at read v.1 >>= λ xs. close_version_at xs.1 >>=
    λ c. Ok (inr xs.0, c.1)

unfoldable pub addition_at : {A : Type 0} → (ℕ → Bool) → Reader A → Reader (A ⊎ List A)
addition_at fits read (Mark OpenVersion ∷ rest) = version_parts_at fits read rest
addition_at fits read ts = read ts >>= λ x. Ok (inl x.0, x.1)
