-- The grammar of constraints (X.680, clauses 49 to 51).
use Rattle.std.specs.Prelude.{ℕ, Bool, List, ◌∷◌, Option, Some, None, is_some, pos, neg_ℤ}
use Rattle.text.specs.declared.token.Mark.TheVariants.{Range, Dot, Bar, Minus, Comma, Ellipsis}
use Rattle.text.specs.declared.reserved.Word.TheVariants.{From, Size, Union, Min, Max}
use Rattle.grammar.specs.Lexeme.{TypeRef, Ident, Number, CString, Word, Mark}
use Rattle.grammar.specs.Grammar.{Grammar, token, mark, word, number_of, ◌∙◌, ◌∣◌, ◌⇒◌, many, optional, preceded, parens}
use Rattle.grammar.specs.Places.{Limited}
use Rattle.trees.specs.Values.{Name}
use Rattle.trees.specs.Constraints.{EndTree, number_end, name_end, RangeTree, only, between, RangesTree, ConstraintTree, values_in, sizes_in, chars_in}

-- `|` or UNION, which mean the same (X.680, clause 50.1)
abbrev pub union_mark : Grammar (Unit {0})
union_mark = mark Bar ∣ word Union

-- one or more parts, with "|" or UNION between
abbrev pub by_union_mark : {A : Type 0} → Grammar A → Grammar (List A)
by_union_mark a = (a ∙ many ((union_mark ∙ a) ⇒ (λ p. p.1))) ⇒ λ p. p.0 ∷ p.1

-- a value's name, after a module's name and a dot, or alone (X.680, clause 14)
abbrev pub value_reference : Grammar (Option Name × Name)
value_reference =
    token Ident ⇒ (λ x. (None, x))
    ∣ (token TypeRef ∙ preceded (Mark Dot) (token Ident)) ⇒ (λ p. (Some p.0, p.1))

-- a text, or the first and the last of a range
abbrev pub chars : Grammar (List ℕ × Option (List ℕ))
chars = token CString ∙ optional (preceded (Mark Range) (token CString))

-- "," and "..." after the parts, if they are there
abbrev pub marker : Grammar Bool
marker = optional (preceded (Mark Comma) (mark Ellipsis)) ⇒ is_some

-- the tree of ranges, and of the extension marker after them, if it is there
abbrev pub with_marker : List RangeTree × Bool → RangesTree
with_marker p = record { ranges = p.0; marker = p.1 }

-- the end of a range that is a number without a minus
abbrev pub positive_end : ℕ → EndTree
positive_end n = number_end (pos n)

-- the end of a range that is a number after a minus
abbrev pub negative_end : ℕ → EndTree
negative_end n = number_end (neg_ℤ (pos n))

-- A limit on numbers is a test: numbers without a minus must pass it.
module _ (fits : ℕ → Bool) where
  -- an end of a range, or a value alone
  abbrev pub end : Grammar EndTree
  end =
      number_of fits ⇒ positive_end
      ∣ preceded (Mark Minus) (token Number) ⇒ negative_end
      ∣ value_reference ⇒ (λ p. name_end p.0 p.1)

  -- a single value, or a range, of which the lower end may be MIN and the upper one MAX (X.680, clauses 51.2 and 51.4)
  abbrev pub range : Grammar RangeTree
  range =
      end ⇒ only
      ∣ ((end ⇒ Some ∣ word Min ⇒ (λ _. None)) ∙ preceded (Mark Range) (end ⇒ Some ∣ word Max ⇒ (λ _. None)))
      ⇒ (λ p. between p.0 p.1)

  -- one or more ranges, and the extension marker after them, if it is there (X.680, clause 50.1)
  abbrev pub ranges : Grammar RangesTree
  ranges = (by_union_mark range ∙ marker) ⇒ with_marker

  -- SIZE, with ranges in parentheses (X.680, clause 51.5)
  abbrev pub size : Grammar ConstraintTree
  size = preceded (Word Size) (parens ranges) ⇒ sizes_in

  -- a constraint: ranges, SIZE or FROM, in parentheses (X.680, clauses 49, 51.5 and 51.7)
  abbrev pub constraint : Grammar ConstraintTree
  constraint =
      parens ranges ⇒ values_in
      ∣ parens size
      ∣ parens (preceded (Word From) (parens (by_union_mark chars))) ⇒ chars_in

-- the grammar of what opens nothing that a limit counts
abbrev pub flat : {A : Type 0} → ((ℕ → Bool) → Grammar A) → Limited A
flat g a = g a.number
