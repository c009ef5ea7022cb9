-- The readers of constraints, and what their productions are owed.
use Rattle.std.proofs.Common.{◌≡◌, ℕ, inl, inr, Bool, true, false, List, [], ◌∷◌, ◌++◌, Option, Some, None, Ok, Err, refl, sym, ap, subst, ◌∙◌ as ◌⋆◌}
use Rattle.std.specs.Prelude.{is_some}
use Rattle.std.proofs.lemmas.List.{append-nil}
use Rattle.text.specs.declared.token.Mark.TheVariants.{Range, Dot, Bar, Minus, Comma, Ellipsis}
use Rattle.text.specs.declared.reserved.Word.TheVariants.{From, Size, Union, Min, Max}
use Rattle.grammar.specs.Lexeme.{Lexeme, TypeRef, Ident, Number, CString, Word, Mark}
use Rattle.grammar.specs.Grammar.{Grammar, token, word, only as lexeme, ◌∙◌, ◌∣◌, ◌⇒◌, optional, preceded}
use Rattle.grammar.specs.Reading.{Limit, Integer, Read, Reader, ◌>>=◌, stop}
use Rattle.grammar.specs.Laws.{everywhere, nowhere, then_read, after_read, is_comma}
use Rattle.grammar.specs.Loops.{sound_short}
use Rattle.grammar.specs.Places.{small}
use Rattle.grammar.specs.Short.{Short, short_of}
use Rattle.grammar.specs.Lists.{no_lexeme}
use Rattle.grammar.specs.Single.{is_ident, ident_at, ident_is, module_name_at, is_typeref, typeref_is}
use Rattle.grammar.specs.Numbers.{Past}
use Rattle.grammar.specs.Parts.{IsKind, pick, perhaps, token_solid}
use Rattle.grammar.specs.Rules.{Rules, Same, either, rule_token, rule_made, rule_seq, rule_preceded, rule_tail, rule_pair, rule_pick, Loose, loose_optional, loose_many, loose_made, rule_read, rule_tests, rule_same, is_number, number_at, rule_number, fitting_made, made, read_again, one_at, one_is}
use Rattle.grammar.specs.Parens.{rule_parens}
use Rattle.trees.specs.Values.{Name}
use Rattle.trees.specs.Constraints.{EndTree, name_end, RangeTree, only, between, RangesTree, ConstraintTree, values_in, sizes_in, chars_in}
use Rattle.notation.specs.ConstraintGrammar.{positive_end, negative_end, marker, with_marker, union_mark, by_union_mark, value_reference, chars, end, range, ranges, size, constraint}
use Rattle.grammar.specs.Grammar.{parens}
use Rattle.notation.specs.ConstraintReading.{is_size, is_union_mark, union_mark_then_at, by_union_mark_at, last_chars_at, more_chars_at, chars_at, from_at, minus_at, ellipsis_at, marker_at, end_at, some_end_at, upper_at, after_min_at, after_end_at, single_at, range_at, ranges_at, size_at, from_in_at, values_in_at, inside_at, constraint_at}
use Rattle.grammar.specs.Reading.{is_open, parens_at}
use Rattle.notation.specs.Reading.{ref_name_at, ref_dot_at}

-- ---- lexemes

abbrev pub is_range : Lexeme → Bool
is_range (Mark Range) = true
is_range t = false

range_one : (t : Lexeme) → is_range t ≡ true → t ≡ Mark Range
range_one (Mark Range) e = refl
range_one t e = absurd cc

abbrev pub is_dot : Lexeme → Bool
is_dot (Mark Dot) = true
is_dot t = false

dot_one : (t : Lexeme) → is_dot t ≡ true → t ≡ Mark Dot
dot_one (Mark Dot) e = refl
dot_one t e = absurd cc

abbrev pub is_minus : Lexeme → Bool
is_minus (Mark Minus) = true
is_minus t = false

minus_one : (t : Lexeme) → is_minus t ≡ true → t ≡ Mark Minus
minus_one (Mark Minus) e = refl
minus_one t e = absurd cc

abbrev pub is_bar : Lexeme → Bool
is_bar (Mark Bar) = true
is_bar t = false

bar_one : (t : Lexeme) → is_bar t ≡ true → t ≡ Mark Bar
bar_one (Mark Bar) e = refl
bar_one t e = absurd cc

abbrev pub is_union : Lexeme → Bool
is_union (Word Union) = true
is_union t = false

union_one : (t : Lexeme) → is_union t ≡ true → t ≡ Word Union
union_one (Word Union) e = refl
union_one t e = absurd cc

abbrev pub is_from : Lexeme → Bool
is_from (Word From) = true
is_from t = false

from_one : (t : Lexeme) → is_from t ≡ true → t ≡ Word From
from_one (Word From) e = refl
from_one t e = absurd cc

size_one : (t : Lexeme) → is_size t ≡ true → t ≡ Word Size
size_one (Word Size) e = refl
size_one t e = absurd cc

abbrev pub is_min : Lexeme → Bool
is_min (Word Min) = true
is_min t = false

min_one : (t : Lexeme) → is_min t ≡ true → t ≡ Word Min
min_one (Word Min) e = refl
min_one t e = absurd cc

abbrev pub is_max : Lexeme → Bool
is_max (Word Max) = true
is_max t = false

max_one : (t : Lexeme) → is_max t ≡ true → t ≡ Word Max
max_one (Word Max) e = refl
max_one t e = absurd cc

unfoldable digits_at : Reader (ℕ)
digits_at (Number x ∷ rest) = Ok (x, rest)
digits_at ts = stop ts

digits_is : IsKind Number is_number digits_at
unfolding digits_at
digits_is = record { yes = λ x. refl; one = one; nil = refl; hit = λ x ts. refl; miss = miss }
  where
    one : (s : Lexeme) → is_number s ≡ true → (x : ℕ) × (s ≡ Number x)
    one (Number x) e = (x, refl)
    one s e = absurd cc

    miss : (s : Lexeme) (ts : List Lexeme) → is_number s ≡ false → digits_at (s ∷ ts) ≡ stop (s ∷ ts)
    miss (Number x) ts e = absurd cc
    miss s ts e = refl

abbrev pub is_text : Lexeme → Bool
is_text (CString x) = true
is_text t = false

unfoldable text_at : Reader (List ℕ)
text_at (CString x ∷ rest) = Ok (x, rest)
text_at ts = stop ts

text_is : IsKind CString is_text text_at
unfolding text_at
text_is = record { yes = λ x. refl; one = one; nil = refl; hit = λ x ts. refl; miss = miss }
  where
    one : (s : Lexeme) → is_text s ≡ true → (x : List ℕ) × (s ≡ CString x)
    one (CString x) e = (x, refl)
    one s e = absurd cc

    miss : (s : Lexeme) (ts : List Lexeme) → is_text s ≡ false → text_at (s ∷ ts) ≡ stop (s ∷ ts)
    miss (CString x) ts e = absurd cc
    miss s ts e = refl

comma_one : (t : Lexeme) → is_comma t ≡ true → t ≡ Mark Comma
comma_one (Mark Comma) e = refl
comma_one t e = absurd cc

abbrev pub is_ellipsis : Lexeme → Bool
is_ellipsis (Mark Ellipsis) = true
is_ellipsis t = false

ellipsis_one : (t : Lexeme) → is_ellipsis t ≡ true → t ≡ Mark Ellipsis
ellipsis_one (Mark Ellipsis) e = refl
ellipsis_one t e = absurd cc

-- what follows a comma, if there is one here
abbrev dots_read : Reader (Unit {0})
dots_read = then_read (λ (p : Unit {0} × Unit {0}). p.1) (one_at is_comma) (one_at is_ellipsis)

marker_same : (ts : List Lexeme) → made is_some (perhaps is_comma dots_read ts) ≡ marker_at ts
unfolding marker_at ellipsis_at
marker_same [] = refl
marker_same (Mark Comma ∷ []) = refl
marker_same (Mark Comma ∷ Mark Ellipsis ∷ ts) = refl
marker_same (Mark Comma ∷ t ∷ ts) = refl
marker_same (t ∷ ts) = refl

or_is : (t : Lexeme) → either is_bar is_union t ≡ true → is_union_mark t ≡ true
or_is (Mark Bar) e = refl
or_is (Word Union) e = refl
or_is t e = absurd cc

abbrev ref_read : Reader (Option Name × Name)
ref_read = pick is_ident (λ ts. ident_at ts >>= λ x. Ok ((None, x.0), x.1)) (λ ts. then_read (λ (p : Name × Name). p) module_name_at (then_read (λ p. p.1) (one_at is_dot) ident_at) ts >>= λ p. Ok ((Some p.0.0, p.0.1), p.1))

typeref_no_ident : (t : Lexeme) → is_typeref t ≡ true → is_ident t ≡ false
typeref_no_ident (TypeRef x) e = refl
typeref_no_ident t e = absurd cc

module _ {over : Limit → ℕ} {within : Limit → Type 0} where
  rule_dots : Rules over within (lexeme (Mark Range)) is_range no_lexeme (one_at is_range)
  rule_dots = rule_token (one_is (Mark Range) is_range refl range_one)

  rule_dot : Rules over within (lexeme (Mark Dot)) is_dot no_lexeme (one_at is_dot)
  rule_dot = rule_token (one_is (Mark Dot) is_dot refl dot_one)

  rule_minus : Rules over within (lexeme (Mark Minus)) is_minus no_lexeme (one_at is_minus)
  rule_minus = rule_token (one_is (Mark Minus) is_minus refl minus_one)

  rule_bar : Rules over within (lexeme (Mark Bar)) is_bar no_lexeme (one_at is_bar)
  rule_bar = rule_token (one_is (Mark Bar) is_bar refl bar_one)

  rule_union : Rules over within (lexeme (Word Union)) is_union no_lexeme (one_at is_union)
  rule_union = rule_token (one_is (Word Union) is_union refl union_one)

  rule_from_w : Rules over within (lexeme (Word From)) is_from no_lexeme (one_at is_from)
  rule_from_w = rule_token (one_is (Word From) is_from refl from_one)

  rule_size_w : Rules over within (lexeme (Word Size)) is_size no_lexeme (one_at is_size)
  rule_size_w = rule_token (one_is (Word Size) is_size refl size_one)

  rule_min : Rules over within (lexeme (Word Min)) is_min no_lexeme (one_at is_min)
  rule_min = rule_token (one_is (Word Min) is_min refl min_one)

  rule_max : Rules over within (lexeme (Word Max)) is_max no_lexeme (one_at is_max)
  rule_max = rule_token (one_is (Word Max) is_max refl max_one)

  -- ---- "|" and UNION

  rule_or :
      Rules over within union_mark (either is_bar is_union) (either no_lexeme no_lexeme) (pick is_bar (one_at is_bar) (one_at is_union))
  rule_or = rule_pick rule_bar rule_union apart
    where
      apart : (t : Lexeme) → is_union t ≡ true → is_bar t ≡ false
      apart t e = subst (λ (t : Lexeme). is_bar t ≡ false) (sym (union_one t e)) refl

  -- a part after "|" or UNION
  or_then_rule : {A : Type 0} {a : Grammar A} {starts ends : Lexeme → Bool} {read : Reader A}
      → Rules over within a starts ends read
      → Rules over within ((union_mark ∙ a) ⇒ (λ p. p.1)) is_union_mark ends (union_mark_then_at read)
  unfolding union_mark_then_at
  or_then_rule {A} {a} {starts} {ends} {read} k = rule_tests is_union_mark ends or_is (λ t e. e) (rule_read (union_mark_then_at read) same (rule_seq (λ p. p.1) rule_or k (λ t e. refl)))
    where
      same : (ts : List Lexeme)
          →
          then_read (λ (p : Unit {0} × A). p.1) (pick is_bar (one_at is_bar) (one_at is_union)) read ts ≡ union_mark_then_at read ts
      same [] = refl
      same (Mark Bar ∷ ts) = read_again (read ts)
      same (Word Union ∷ ts) = read_again (read ts)
      same (t ∷ ts) = refl

  pub rule_by_union_mark : {A : Type 0} {a : Grammar A} {starts ends : Lexeme → Bool} {read : Reader A}
      → Rules over within a starts ends read
      → ((t : Lexeme) → is_union_mark t ≡ true → ends t ≡ false)
      → Rules over within (by_union_mark a) starts (either ends (either is_union_mark ends)) (by_union_mark_at read)
  unfolding by_union_mark_at
  rule_by_union_mark k apart = rule_tail (λ p. p.0 ∷ p.1) k (loose_many (or_then_rule k) apart) apart

  -- ---- the marker

  loose_marker :
      Loose over within marker is_comma (either is_comma no_lexeme) (λ ts. made is_some (perhaps is_comma dots_read ts))
  loose_marker =
      loose_made is_some
      (loose_optional (rule_preceded (rule_token (one_is (Mark Comma) is_comma refl comma_one)) (rule_token (one_is (Mark Ellipsis) is_ellipsis refl ellipsis_one))))

  -- ---- characters

  range_then_text :
      Rules over within (preceded (Mark Range) (token CString)) is_range no_lexeme (then_read (λ p. p.1) (one_at is_range) text_at)
  range_then_text = rule_preceded rule_dots (rule_token text_is)

  pub rule_chars : Rules over within chars is_text (either no_lexeme (either is_range no_lexeme)) chars_at
  unfolding text_at chars_at last_chars_at more_chars_at
  rule_chars = rule_read chars_at same (rule_pair (token CString) (optional (preceded (Mark Range) (token CString))) (token_solid CString) (rule_tail (λ p. p) (rule_token text_is) (loose_optional range_then_text) (λ t e. refl)))
    where
      last : (c : List ℕ) (ts : List Lexeme)
          →
          then_read (λ (p : List ℕ × Option (List ℕ)). p) (λ ts. Ok (c, ts)) (perhaps is_range (then_read (λ p. p.1) (one_at is_range) text_at)) (Mark Range ∷ ts) ≡ last_chars_at c ts
      last c [] = refl
      last c (CString d ∷ ts) = refl
      last c (t ∷ ts) = refl

      rest : (c : List ℕ) (ts : List Lexeme)
          →
          then_read (λ (p : List ℕ × Option (List ℕ)). p) (λ ts. Ok (c, ts)) (perhaps is_range (then_read (λ p. p.1) (one_at is_range) text_at)) ts ≡ more_chars_at c ts
      rest c [] = refl
      rest c (Mark Range ∷ ts) = last c ts
      rest c (t ∷ ts) = refl

      same : (ts : List Lexeme)
          →
          then_read (λ (p : List ℕ × Option (List ℕ)). p) text_at (perhaps is_range (then_read (λ p. p.1) (one_at is_range) text_at)) ts ≡ chars_at ts
      same [] = refl
      same (CString c ∷ ts) = rest c ts
      same (t ∷ ts) = refl

  -- after FROM
  pub rule_from : Rules over within (preceded (Word From) (parens (by_union_mark chars))) is_from no_lexeme from_at
  unfolding from_at
  rule_from = rule_read from_at same (rule_preceded rule_from_w (rule_parens (rule_by_union_mark rule_chars or_apart) refl))
    where
      or_apart : (t : Lexeme) → is_union_mark t ≡ true → either no_lexeme (either is_range no_lexeme) t ≡ false
      or_apart (Mark Bar) e = refl
      or_apart (Word Union) e = refl
      or_apart t e = absurd cc

      same : (ts : List Lexeme)
          →
          then_read (λ (p : Unit {0} × List (List ℕ × Option (List ℕ))). p.1) (one_at is_from) (parens_at (by_union_mark_at chars_at)) ts ≡ from_at ts
      same [] = refl
      same (Word From ∷ ts) = read_again (parens_at (by_union_mark_at chars_at) ts)
      same (t ∷ ts) = refl

  -- ---- names

  dot_then_name :
      Rules over within (preceded (Mark Dot) (token Ident)) is_dot no_lexeme (then_read (λ p. p.1) (one_at is_dot) ident_at)
  dot_then_name = rule_preceded rule_dot (rule_token ident_is)

  rule_ref : Rules over within value_reference (either is_ident is_typeref) (either no_lexeme no_lexeme) ref_read
  rule_ref =
      rule_pick (rule_made (λ x. (None, x)) (rule_token ident_is))
      (rule_made (λ p. (Some p.0, p.1)) (rule_pair (token TypeRef) (preceded (Mark Dot) (token Ident)) (token_solid TypeRef) (rule_seq (λ p. p) (rule_token typeref_is) dot_then_name (λ t e. refl))))
      typeref_no_ident

-- fits is the reader's test on numbers, fits' the grammar's
module _ (over : Limit → ℕ) (within : Limit → Type 0) (fits fits' : ℕ → Bool)
    (grows : (n : ℕ) → fits n ≡ true → fits' n ≡ true) (past : Past (over Integer) ((n : ℕ) → fits' n ≡ true))
    (room : (n : ℕ) → fits' n ≡ true → within Integer → fits n ≡ true) where
  -- ---- ends of ranges

  abbrev ends_start : Lexeme → Bool
  ends_start (Number n) = true
  ends_start (Mark Minus) = true
  ends_start (Ident x) = true
  ends_start (TypeRef x) = true
  ends_start t = false

  abbrev end_read : Reader EndTree
  end_read =
      pick is_number (λ ts. number_at fits ts >>= λ n. Ok (positive_end n.0, n.1))
      (pick is_minus (λ ts. then_read (λ (p : Unit {0} × ℕ). p.1) (one_at is_minus) digits_at ts >>= λ n. Ok (negative_end n.0, n.1)) (λ ts. ref_read ts >>= λ p. Ok (name_end p.0.0 p.0.1, p.1)))

  ref_no_minus : (t : Lexeme) → either is_ident is_typeref t ≡ true → is_minus t ≡ false
  ref_no_minus (Ident x) e = refl
  ref_no_minus (TypeRef x) e = refl
  ref_no_minus t e = absurd cc

  rest_no_number : (t : Lexeme) → either is_minus (either is_ident is_typeref) t ≡ true → is_number t ≡ false
  rest_no_number (Number n) e = absurd cc
  rest_no_number t e = refl

  end_tests : (t : Lexeme)
      → either is_number (either is_minus (either is_ident is_typeref)) t ≡ true
      → ends_start t ≡ true
  end_tests (Number n) e = refl
  end_tests (Mark Minus) e = refl
  end_tests (Ident x) e = refl
  end_tests (TypeRef x) e = refl
  end_tests t e = absurd cc

  minus_same : (ts : List Lexeme) → end_read (Mark Minus ∷ ts) ≡ end_at fits (Mark Minus ∷ ts)
  unfolding digits_at end_at minus_at
  minus_same [] = refl
  minus_same (Number n ∷ ts) = refl
  minus_same (t ∷ ts) = refl

  dot_same : (m : List ℕ) (ts : List Lexeme)
      → end_read (TypeRef m ∷ Mark Dot ∷ ts) ≡ end_at fits (TypeRef m ∷ Mark Dot ∷ ts)
  unfolding module_name_at ident_at end_at ref_dot_at ref_name_at
  dot_same m [] = refl
  dot_same m (Ident x ∷ ts) = refl
  dot_same m (t ∷ ts) = refl

  typeref_same : (m : List ℕ) (ts : List Lexeme) → end_read (TypeRef m ∷ ts) ≡ end_at fits (TypeRef m ∷ ts)
  unfolding module_name_at end_at ref_dot_at
  typeref_same m [] = refl
  typeref_same m (Mark Dot ∷ ts) = dot_same m ts
  typeref_same m (t ∷ ts) = refl

  end_same : (ts : List Lexeme) → end_read ts ≡ end_at fits ts
  unfolding number_at ident_at module_name_at end_at
  end_same [] = refl
  end_same (Number n ∷ ts) = fitting_made (positive_end) (fits n) n (Number n ∷ ts) ts
  end_same (Mark Minus ∷ ts) = minus_same ts
  end_same (Ident x ∷ ts) = refl
  end_same (TypeRef m ∷ ts) = typeref_same m ts
  end_same (t ∷ ts) = refl

  pub rule_end : Rules over within (end fits') ends_start no_lexeme (end_at fits)
  rule_end =
      rule_tests ends_start no_lexeme end_tests (λ t e. refl)
      (rule_read (end_at fits) end_same
      (rule_pick (rule_made (positive_end) (rule_number over within fits fits' grows past room))
      (rule_pick (rule_made (negative_end) (rule_preceded rule_minus (rule_token digits_is))) (rule_made (λ p. name_end p.0 p.1) rule_ref) ref_no_minus) rest_no_number))

  -- ---- ranges

  abbrev bound : Grammar (Option EndTree)
  bound = end fits' ⇒ Some ∣ word Max ⇒ (λ _. None)

  max_no_end : (t : Lexeme) → is_max t ≡ true → ends_start t ≡ false
  max_no_end (Word Max) e = refl
  max_no_end t e = absurd cc

  upper_same : (ts : List Lexeme)
      →
      pick ends_start (λ ts. end_at fits ts >>= λ e. Ok (Some e.0, e.1)) (λ ts. one_at is_max ts >>= λ x. Ok (None, x.1)) ts ≡ upper_at fits ts
  unfolding upper_at some_end_at end_at
  upper_same [] = refl
  upper_same (Word Max ∷ ts) = refl
  upper_same (Mark Minus ∷ ts) = refl
  upper_same (t ∷ ts) = refl

  rule_bound : Rules over within bound (either ends_start is_max) (either no_lexeme no_lexeme) (upper_at fits)
  rule_bound = rule_read (upper_at fits) upper_same (rule_pick (rule_made Some rule_end) (rule_made (λ _. None) rule_max) max_no_end)

  abbrev upper : Grammar (Option EndTree)
  upper = preceded (Mark Range) bound

  abbrev upper_read : Reader (Option EndTree)
  upper_read = then_read (λ p. p.1) (one_at is_range) (upper_at fits)

  rule_upper : Rules over within upper is_range (either no_lexeme no_lexeme) upper_read
  rule_upper = rule_preceded rule_dots rule_bound

  abbrev of_ends : EndTree × Option (Option EndTree) → RangeTree
  of_ends (a, None) = only a
  of_ends (a, Some b) = between (Some a) b

  after_end_same : (a : EndTree) (ts : List Lexeme)
      →
      made (λ (y : Option (Option EndTree)). of_ends (a, y)) (perhaps is_range upper_read ts) ≡ after_end_at fits a ts
  unfolding after_end_at
  after_end_same a [] = refl
  after_end_same a (Mark Range ∷ ts) = go (upper_at fits ts)
    where
      go : (r : Read (Option EndTree))
          →
          made (λ (y : Option (Option EndTree)). of_ends (a, y)) (made Some (made (λ (b : Option EndTree). b) r)) ≡ made (between (Some a)) r
      go (Ok x) = refl
      go (Err f) = refl
  after_end_same a (t ∷ ts) = refl

  single_same : (ts : List Lexeme)
      → then_read of_ends (end_at fits) (perhaps is_range upper_read) ts ≡ single_at fits ts
  unfolding single_at
  single_same ts = go (end_at fits ts)
    where
      go : (r : Read EndTree)
          → after_read of_ends r (perhaps is_range upper_read) ≡ (r >>= λ a. after_end_at fits a.0 a.1)
      go (Ok x) = after_end_same x.0 x.1
      go (Err f) = refl

  rule_single :
      Rules over within ((end fits' ∙ optional upper) ⇒ of_ends) ends_start (either no_lexeme (either is_range (either no_lexeme no_lexeme))) (single_at fits)
  rule_single = rule_read (single_at fits) single_same (rule_tail of_ends rule_end (loose_optional rule_upper) (λ t e. refl))

  min_same : (ts : List Lexeme) → made (between None) (upper_read ts) ≡ after_min_at fits ts
  unfolding after_min_at
  min_same [] = refl
  min_same (Mark Range ∷ ts) = go (upper_at fits ts)
    where
      go : (r : Read (Option EndTree))
          → made (between None) (made (λ (b : Option EndTree). b) r) ≡ made (between None) r
      go (Ok x) = refl
      go (Err f) = refl
  min_same (t ∷ ts) = refl

  rule_after_min : Rules over within (upper ⇒ between None) is_range (either no_lexeme no_lexeme) (after_min_at fits)
  rule_after_min = rule_read (after_min_at fits) min_same (rule_made (between None) rule_upper)

  single_no_min : (t : Lexeme) → ends_start t ≡ true → is_min t ≡ false
  single_no_min (Word Min) e = absurd cc
  single_no_min t e = refl

  range_same : (ts : List Lexeme)
      →
      pick is_min (then_read (λ (p : Unit {0} × RangeTree). p.1) (one_at is_min) (after_min_at fits)) (single_at fits) ts ≡ range_at fits ts
  unfolding range_at
  range_same [] = refl
  range_same (Word Min ∷ ts) = read_again (after_min_at fits ts)
  range_same (t ∷ ts) = refl

  -- what begins with MIN, and what begins with an end
  abbrev split_range : Grammar RangeTree
  split_range = preceded (Word Min) (upper ⇒ between None) ∣ (end fits' ∙ optional upper) ⇒ of_ends

  end_part : (a : EndTree) (u : List Lexeme) → (end fits').Is a u → (end fits').IsPrefix u
  end_part = (rule_end.finds tt).part

  range_is_split : Same split_range (range fits')
  range_is_split = record { to = record { is = to_is; on = to_on }; back = record { is = back_is; on = back_on } }
    where
      to_is : (x : RangeTree) (u : List Lexeme) → split_range.Is x u → (range fits').Is x u
      to_is x u (inl (p, d, (m, v, q, hm, (b, e, hb)))) = inr ((None, b), d ⋆ e, (m, v, q, inr (tt, refl, hm), hb))
      to_is x u (inr ((a, None), d, (v, w, q, hv, hw))) = inl (a, d, subst (λ (l : List Lexeme). (end fits').Is a l) (sym (q ⋆ ap (λ (l : List Lexeme). v ++ l) hw ⋆ append-nil v)) hv)
      to_is x u (inr ((a, Some b), d, (v, w, q, hv, hw))) = inr ((Some a, b), d, (v, w, q, inl (a, refl, hv), hw))

      to_on : (u : List Lexeme) → split_range.IsPrefix u → (range fits').IsPrefix u
      to_on u (inl (inl h)) = inr (inl (inr h))
      to_on u (inl (inr (t, v, w, q, hv, hw))) = inr (inr (None, v, w, q, inr (tt, refl, hv), hw))
      to_on u (inr (inl h)) = inl h
      to_on u (inr (inr (a, v, w, q, hv, inl e))) = inl (subst (end fits').IsPrefix (sym (q ⋆ ap (λ (l : List Lexeme). v ++ l) e ⋆ append-nil v)) (end_part a v hv))
      to_on u (inr (inr (a, v, w, q, hv, inr h))) = inr (inr (Some a, v, w, q, inl (a, refl, hv), h))

      back_is : (x : RangeTree) (u : List Lexeme) → (range fits').Is x u → split_range.Is x u
      back_is x u (inl (a, d, h)) = inr ((a, None), d, (u, [], sym (append-nil u), h, refl))
      back_is x u (inr ((c, b), d, (v, w, q, inl (a, e, hv), hw))) = inr ((a, Some b), d ⋆ ap (λ (c : Option EndTree). between c b) e, (v, w, q, hv, hw))
      back_is x u (inr ((c, b), d, (v, w, q, inr (t, e, hv), hw))) = inl ((tt, between None b), d ⋆ ap (λ (c : Option EndTree). between c b) e, (v, w, q, hv, (b, refl, hw)))

      back_on : (u : List Lexeme) → (range fits').IsPrefix u → split_range.IsPrefix u
      back_on u (inl h) = inr (inl h)
      back_on u (inr (inl (inl h))) = inr (inl h)
      back_on u (inr (inl (inr h))) = inl (inl h)
      back_on u (inr (inr (c, v, w, q, inl (a, e, hv), hw))) = inr (inr (a, v, w, q, hv, inr hw))
      back_on u (inr (inr (c, v, w, q, inr (t, e, hv), hw))) = inl (inr (tt, v, w, q, hv, hw))

  abbrev range_starts : Lexeme → Bool
  range_starts = either is_min ends_start

  range_ends : (t : Lexeme)
      → is_range t ≡ false
      → either (either no_lexeme no_lexeme) (either no_lexeme (either is_range (either no_lexeme no_lexeme))) t ≡ false
  range_ends (Mark Range) e = absurd cc
  range_ends t e = refl

  pub rule_range : Rules over within (range fits') range_starts is_range (range_at fits)
  rule_range =
      rule_same (range fits') range_is_split
      (rule_tests range_starts is_range (λ t e. e) range_ends (rule_read (range_at fits) range_same (rule_pick (rule_preceded rule_min rule_after_min) rule_single single_no_min)))

  or_no_range : (t : Lexeme) → is_union_mark t ≡ true → is_range t ≡ false
  or_no_range (Mark Bar) e = refl
  or_no_range (Word Union) e = refl
  or_no_range t e = absurd cc

  abbrev ranges_end : Lexeme → Bool
  ranges_end = either (either is_range (either is_union_mark is_range)) (either is_comma no_lexeme)

  comma_ends : (t : Lexeme) → is_comma t ≡ true → either is_range (either is_union_mark is_range) t ≡ false
  comma_ends t e = subst (λ (t : Lexeme). either is_range (either is_union_mark is_range) t ≡ false) (sym (comma_one t e)) refl

  ranges_same : (ts : List Lexeme)
      →
      then_read with_marker (by_union_mark_at (range_at fits)) (λ us. made is_some (perhaps is_comma dots_read us)) ts ≡ ranges_at fits ts
  unfolding ranges_at
  ranges_same ts = go (by_union_mark_at (range_at fits) ts)
    where
      go : (r : Read (List RangeTree))
          →
          after_read with_marker r (λ us. made is_some (perhaps is_comma dots_read us)) ≡ (r >>= λ rs. marker_at rs.1 >>= λ m. Ok (with_marker (rs.0, m.0), m.1))
      go (Ok x) = ap (λ (r : Read Bool). r >>= λ m. Ok (with_marker (x.0, m.0), m.1)) (marker_same x.1)
      go (Err f) = refl

  pub rule_ranges : Rules over within (ranges fits') range_starts ranges_end (ranges_at fits)
  rule_ranges = rule_read (ranges_at fits) ranges_same (rule_tail with_marker (rule_by_union_mark rule_range or_no_range) loose_marker comma_ends)

  -- ---- sizes and constraints

  size_same : (ts : List Lexeme)
      →
      made sizes_in (then_read (λ (p : Unit {0} × RangesTree). p.1) (one_at is_size) (parens_at (ranges_at fits)) ts) ≡ size_at fits ts
  unfolding size_at
  size_same [] = refl
  size_same (Word Size ∷ ts) = ap (made sizes_in) (read_again (parens_at (ranges_at fits) ts))
  size_same (t ∷ ts) = refl

  pub rule_size : Rules over within (size fits') is_size no_lexeme (size_at fits)
  rule_size = rule_read (size_at fits) size_same (rule_made sizes_in (rule_preceded rule_size_w (rule_parens rule_ranges refl)))

  abbrev inner : Grammar ConstraintTree
  inner = ranges fits' ⇒ values_in ∣ size fits' ∣ preceded (Word From) (parens (by_union_mark chars)) ⇒ chars_in

  rule_values_in : Rules over within (ranges fits' ⇒ values_in) range_starts ranges_end (values_in_at fits)
  unfolding values_in_at
  rule_values_in = rule_made values_in rule_ranges

  rule_from_in :
      Rules over within (preceded (Word From) (parens (by_union_mark chars)) ⇒ chars_in) is_from no_lexeme (from_in_at fits)
  unfolding from_in_at
  rule_from_in = rule_made chars_in rule_from

  from_no_size : (t : Lexeme) → is_from t ≡ true → is_size t ≡ false
  from_no_size t e = subst (λ (t : Lexeme). is_size t ≡ false) (sym (from_one t e)) refl

  words_no_range : (t : Lexeme) → either is_size is_from t ≡ true → range_starts t ≡ false
  words_no_range (Word Size) e = refl
  words_no_range (Word From) e = refl
  words_no_range t e = absurd cc

  inside_same : (ts : List Lexeme)
      → pick range_starts (values_in_at fits) (pick is_size (size_at fits) (from_in_at fits)) ts ≡ inside_at fits ts
  unfolding inside_at values_in_at from_in_at ranges_at by_union_mark_at range_at single_at end_at from_at size_at
  inside_same [] = refl
  inside_same (Word Size ∷ ts) = refl
  inside_same (Word From ∷ ts) = refl
  inside_same (Word Min ∷ ts) = refl
  inside_same (Mark Minus ∷ ts) = refl
  inside_same (t ∷ ts) = refl

  rule_inside :
      Rules over within inner (either range_starts (either is_size is_from)) (either ranges_end (either no_lexeme no_lexeme)) (inside_at fits)
  rule_inside = rule_read (inside_at fits) inside_same (rule_pick rule_values_in (rule_pick rule_size rule_from_in from_no_size) words_no_range)

  abbrev split_constraint : Grammar ConstraintTree
  split_constraint = parens inner

  -- one parenthesis for all
  constraint_is_split : Same split_constraint (constraint fits')
  constraint_is_split = record { to = record { is = to_is; on = to_on }; back = record { is = back_is; on = back_on } }
    where
      to_is : (x : ConstraintTree) (u : List Lexeme) → split_constraint.Is x u → (constraint fits').Is x u
      to_is x u (p, d, (m, v, q, hm, (w, c, e, inl (a, f, ha), hc))) = inl (a, d ⋆ f, ((tt, (a, tt)), refl, (m, v, q, hm, (w, c, e, ha, hc))))
      to_is x u (p, d, (m, v, q, hm, (w, c, e, inr (inl ha), hc))) = inr (inl (p, d, (m, v, q, hm, (w, c, e, ha, hc))))
      to_is x u (p, d, (m, v, q, hm, (w, c, e, inr (inr (a, f, ha)), hc))) = inr (inr (a, d ⋆ f, ((tt, (a, tt)), refl, (m, v, q, hm, (w, c, e, ha, hc)))))

      to_on : (u : List Lexeme) → split_constraint.IsPrefix u → (constraint fits').IsPrefix u
      to_on u (inl h) = inl (inl h)
      to_on u (inr (o, m, v, q, hm, inl (inl h))) = inl (inr (o, m, v, q, hm, inl h))
      to_on u (inr (o, m, v, q, hm, inl (inr (inl h)))) = inr (inl (inr (o, m, v, q, hm, inl h)))
      to_on u (inr (o, m, v, q, hm, inl (inr (inr h)))) = inr (inr (inr (o, m, v, q, hm, inl h)))
      to_on u (inr (o, m, v, q, hm, inr (x, w, c, e, inl (a, f, ha), hc))) = inl (inr (o, m, v, q, hm, inr (a, w, c, e, ha, hc)))
      to_on u (inr (o, m, v, q, hm, inr (x, w, c, e, inr (inl ha), hc))) = inr (inl (inr (o, m, v, q, hm, inr (x, w, c, e, ha, hc))))
      to_on u (inr (o, m, v, q, hm, inr (x, w, c, e, inr (inr (a, f, ha)), hc))) = inr (inr (inr (o, m, v, q, hm, inr (a, w, c, e, ha, hc))))

      back_is : (x : ConstraintTree) (u : List Lexeme) → (constraint fits').Is x u → split_constraint.Is x u
      back_is x u (inl (a, d, (p, f, (m, v, q, hm, (w, c, e, ha, hc))))) = ((tt, (x, tt)), refl, (m, v, q, hm, (w, c, e, inl (p.1.0, d ⋆ ap values_in f, ha), hc)))
      back_is x u (inr (inl (p, d, (m, v, q, hm, (w, c, e, ha, hc))))) = (p, d, (m, v, q, hm, (w, c, e, inr (inl ha), hc)))
      back_is x u (inr (inr (a, d, (p, f, (m, v, q, hm, (w, c, e, ha, hc)))))) = ((tt, (x, tt)), refl, (m, v, q, hm, (w, c, e, inr (inr (p.1.0, d ⋆ ap chars_in f, ha)), hc)))

      back_on : (u : List Lexeme) → (constraint fits').IsPrefix u → split_constraint.IsPrefix u
      back_on u (inl (inl h)) = inl h
      back_on u (inl (inr (o, m, v, q, hm, inl h))) = inr (o, m, v, q, hm, inl (inl h))
      back_on u (inl (inr (o, m, v, q, hm, inr (a, w, c, e, ha, hc)))) = inr (o, m, v, q, hm, inr (values_in a, w, c, e, inl (a, refl, ha), hc))
      back_on u (inr (inl (inl h))) = inl h
      back_on u (inr (inl (inr (o, m, v, q, hm, inl h)))) = inr (o, m, v, q, hm, inl (inr (inl h)))
      back_on u (inr (inl (inr (o, m, v, q, hm, inr (a, w, c, e, ha, hc))))) = inr (o, m, v, q, hm, inr (a, w, c, e, inr (inl ha), hc))
      back_on u (inr (inr (inl h))) = inl h
      back_on u (inr (inr (inr (o, m, v, q, hm, inl h)))) = inr (o, m, v, q, hm, inl (inr (inr h)))
      back_on u (inr (inr (inr (o, m, v, q, hm, inr (a, w, c, e, ha, hc))))) = inr (o, m, v, q, hm, inr (chars_in a, w, c, e, inr (inr (a, refl, ha)), hc))

  pub rule_constraint : Rules over within (constraint fits') is_open no_lexeme (constraint_at fits)
  unfolding constraint_at
  rule_constraint = rule_same (constraint fits') constraint_is_split (rule_parens rule_inside refl)

-- ---- no more lexemes are left than are given

pub chars_short : Short chars_at
chars_short = short_of chars_at (record { shorter = λ ts x e. sound_short chars ts (chars_at ts) x e ((rule_chars {over = nowhere} {within = everywhere}).sound tt ts) })

pub range_short : Short (range_at small)
range_short = short_of (range_at small) (record { shorter = λ ts x e. sound_short (range small) ts (range_at small ts) x e ((rule_range nowhere everywhere small small (λ n h. h) tt (λ n h t. h)).sound tt ts) })
