-- The grammar of values (X.680, clauses 17 to 33 and 41).
use Rattle.std.specs.Prelude.{ℕ, zero, suc, Bool, ◌∷◌, Some, None, pos, neg_ℤ}
use Rattle.text.specs.declared.token.Mark.TheVariants.{Colon, Dot, Minus, OpenBrace, CloseBrace}
use Rattle.text.specs.declared.reserved.Word.TheVariants.{True, False, Null}
use Rattle.grammar.specs.Lexeme.{TypeRef, Ident, Number, BString, HString, CString, Mark}
use Rattle.grammar.specs.Grammar.{Grammar, token, mark, word, number_of, ◌∙◌, ◌∣◌, ◌⇒◌, many, preceded, listed, braces}
use Rattle.grammar.specs.Places.{Limited}
use Rattle.trees.specs.Values.{Tree, yes, no, null, number, binary, hex, chars, reference, chosen, nothing, numbers, items, fields, trees, named_trees}

-- the tree of a value that is a number without a minus
abbrev pub positive : ℕ → Tree
positive n = number (pos n)

-- the tree of a value that is a number after a minus
abbrev pub negative : ℕ → Tree
negative n = number (neg_ℤ (pos n))

-- A limit on numbers is a test: numbers without a minus must pass it.
module _ (fits : ℕ → Bool) where
  -- the values that hold no value, as numbers, strings and names
  abbrev pub simple : Grammar Tree
  simple =
      word True ⇒ (λ _. yes)
      ∣ word False ⇒ (λ _. no)
      ∣ word Null ⇒ (λ _. null)
      ∣ number_of fits ⇒ positive
      ∣ preceded (Mark Minus) (token Number) ⇒ negative
      ∣ token BString ⇒ binary
      ∣ token HString ⇒ hex
      ∣ token CString ⇒ chars
      ∣ token Ident ⇒ reference None
      ∣ (token TypeRef ∙ preceded (Mark Dot) (token Ident)) ⇒ (λ p. reference (Some p.0) p.1)

  -- the values that open a brace or an alternative, with the values in them
  abbrev pub nested : Grammar Tree → Grammar Tree
  nested value =
      (token Ident ∙ preceded (Mark Colon) value) ⇒ (λ p. chosen p.0 p.1)
      ∣ (mark OpenBrace ∙ mark CloseBrace) ⇒ (λ _. nothing)
      ∣ braces (number_of fits ∙ (number_of fits ∙ many (number_of fits)))
      ⇒ (λ p. numbers (p.0 ∷ p.1.0 ∷ p.1.1))
      ∣ braces (listed value) ⇒ (λ vs. items (trees vs))
      ∣ braces (listed (token Ident ∙ value)) ⇒ (λ ms. fields (named_trees ms))

  -- the values with at most n braces and alternatives nested in each other (X.680, clause 17)
  abbrev pub value : ℕ → Grammar Tree
  value zero = simple
  value (suc n) = simple ∣ nested (value n)

-- the values within limits
abbrev pub values : Limited Tree
values a = value a.number a.nesting
