-- A printed value is lexed and read.
use Rattle.std.proofs.Common.{◌≡◌, ℕ, ◌+◌, ◌≤◌, List, [], ◌++◌, length, sym, ap, subst, ◌∙◌ as ◌⋆◌, arith, inl, inr, Ok}
use Rattle.std.specs.Prelude.{IsUtf8}
use Rattle.std.proofs.lemmas.List.{append-nil}
use Rattle.text.specs.declared.token.Token.{Token}
use Rattle.text.specs.Text.{IsText, max_text}
use Rattle.grammar.specs.Lexeme.{Lexeme, lexemes}
use Rattle.grammar.specs.Places.{bounded, small, Within}
use Rattle.grammar.specs.Reading.{Read, Limit, Nesting, Integer, TagNumber}
use Rattle.grammar.specs.Laws.{ReadsAs}
use Rattle.parser_combinators.specs.Given.{IsLexed}
use Rattle.trees.specs.Values.{Tree}
use Rattle.notation.specs.Value.{value}
use Rattle.notation.specs.Reading.{value_at}
use Rattle.notation.specs.Laws.{ValueLaws}
use Rattle.asn_base.specs.Abstract.{AbstractValue}
use Rattle.asn_base.specs.Types.{Resolved}
use Rattle.asn_base.specs.Typed.{ValueIn}
use Rattle.asn_base.specs.Schemas.{IsSchema}
use Rattle.value_text.specs.Print.{print}
use Rattle.laws_print.specs.Back.{tree_of}
use Rattle.laws_print.specs.Lexing.{Lexes}
use Rattle.laws_print.proofs.Printing.{Printed, printed, ends_nil}

module _ (s : List Resolved) (n t : ℕ) (v : AbstractValue) (schema : IsSchema s) (h : ValueIn s n t v) where
  parts : Printed s n t v (print s t v)
  parts = printed s schema h

  whole : Lexes (print s t v) 0 (length (print s t v)) parts.lexemes
  whole =
      let e : 0 + length (print s t v) ≡ length (print s t v) = omega arith in
      subst (λ (j : ℕ). Lexes (print s t v) 0 j parts.lexemes) e (parts.speaks (print s t v) [] 0 (sym (append-nil (print s t v))) ends_nil)

  pub has_tokens : IsUtf8 (print s t v) → length (print s t v) ≤ max_text → (ts : List Token) × IsLexed (print s t v) ts
  has_tokens u short = (
    whole.tokens,
    record { text = record { utf8 = u; whole = whole.holds }; limits = record { text = short; numbers = whole.small } },
  )

  within : n ≤ 128 → (l : Limit) → Within l (bounded n) (bounded 128)
  within le Nesting = le
  within le Integer = λ m e. e
  within le TagNumber = λ m e. e

  only : n ≤ 128 → (r : Read Tree) → ReadsAs (λ l. Within l (bounded n) (bounded 128)) r (tree_of s t v) [] → r ≡ Ok (tree_of s t v, [])
  only le r (inl e) = e
  only le r (inr (p, f, e)) = absurd (f (within le p.0))

  pub read_back : ValueLaws → ((x : List ℕ) (ts us : List Token) → IsText x ts → IsText x us → ts ≡ us) → n ≤ 128
      → (ts : List Token) → IsLexed (print s t v) ts → value_at small 128 (lexemes (print s t v) ts) ≡ Ok (tree_of s t v, [])
  read_back laws one le ts l =
      let same : whole.tokens ≡ ts = one (print s t v) whole.tokens ts (record { utf8 = l.text.utf8; whole = whole.holds }) l.text in
      let says : parts.lexemes ≡ lexemes (print s t v) ts = sym whole.says ⋆ ap (lexemes (print s t v)) same in
      let is : (value small n).Is (tree_of s t v) (lexemes (print s t v) ts) = subst (λ (ls : List Lexeme). (value small n).Is (tree_of s t v) ls) says parts.is in
      ap (value_at small 128) (sym (append-nil (lexemes (print s t v) ts)))
      ⋆ only le (value_at small 128 (lexemes (print s t v) ts ++ [])) ((laws.finds (bounded 128) (bounded n)).whole (tree_of s t v) (lexemes (print s t v) ts) [] is tt)
