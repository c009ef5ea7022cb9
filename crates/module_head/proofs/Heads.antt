-- The reader of a module's head, and what its productions are owed.
use Rattle.std.proofs.Common.{◌≡◌, ℕ, inl, inr, Bool, true, false, List, [], ◌∷◌, Option, Some, None, Ok, Err, refl, subst}
use Rattle.text.specs.declared.token.Mark.TheVariants.{Assign, OpenParenthesis, CloseParenthesis, Semicolon}
use Rattle.text.specs.declared.reserved.Word.TheVariants.{Explicit, Implicit, Automatic, Definitions, Begin, Exports, Imports, From}
use Rattle.grammar.specs.Lexeme.{Lexeme, TypeRef, Ident, Word, Mark}
use Rattle.grammar.specs.Grammar.{Grammar, token, mark, word, only as lexeme, number_of, ◌∙◌, ◌⇒◌, many, optional, preceded}
use Rattle.grammar.specs.Grows.{Grows, same_grows, number_grows, seq_grows, made_grows, either_grows, many_grows, preceded_grows, braces_grows}
use Rattle.grammar.specs.Numbers.{Past}
use Rattle.grammar.specs.Reading.{Limit, Integer, Read, Reader}
use Rattle.grammar.specs.Lists.{no_lexeme}
use Rattle.grammar.specs.Parts.{perhaps, made_sound, made_finds, same_sound, same_finds}
use Rattle.grammar.specs.Grammar.{parens}
use Rattle.grammar.specs.Rules.{Rules, Loose, either, rule_token, rule_seq, rule_preceded, rule_tail, rule_lead, rule_pair, loose_optional, rule_tests, made}
use Rattle.grammar.specs.Single.{definitions_at, assign_at, begin_at}
use Rattle.module_head.specs.Heading.{default_or, tag_default, exports_or, export_list, imports_or, imports, import_list, symbols, arc, oid, module_ref, import_from, heading, head_of, head}
use Rattle.module_head.specs.HeadingReading.{default_words_at, exports_at}
use Rattle.module_head.specs.HeadLaws.{head_ends}
use Rattle.module_head.specs.ImportReading.{imports_at}
use Rattle.module_head.specs.HeadReading.{tag_default_at, begun_at, export_list_at, import_list_at, heading_at, exporting_at, head_at}
use Rattle.grammar.specs.Single.{is_assign, assign_is, is_definitions, definitions_is, is_begin, begin_is, is_typeref}
use Rattle.module_head.proofs.Headings.{is_explicit_word, is_implicit_word, is_automatic_word, is_exports_word, rule_default_words, rule_exports}
use Rattle.module_head.proofs.Imported.{is_imports_word, is_open_brace, rule_module, rule_imports}

-- ---- what is read is the same

abbrev is_default_word : Lexeme → Bool
is_default_word = either is_explicit_word (either is_implicit_word is_automatic_word)

-- what stands for nothing is not seen in what is read
again : {A : Type 0} (f : Option A → A) → ((x : A) → f (Some x) ≡ x) → (r : Read A) → made f (made Some r) ≡ r
again {A} f e (Ok x) = subst (λ (y : A). Ok (f (Some x.0), x.1) ≡ Ok (y, x.1)) (e x.0) refl
again f e (Err g) = refl

default_same : (ts : List Lexeme) → made default_or (perhaps is_default_word default_words_at ts) ≡ tag_default_at ts
unfolding tag_default_at
default_same [] = refl
default_same (Word Explicit ∷ ts) = again default_or (λ d. refl) (default_words_at (Word Explicit ∷ ts))
default_same (Word Implicit ∷ ts) = again default_or (λ d. refl) (default_words_at (Word Implicit ∷ ts))
default_same (Word Automatic ∷ ts) = again default_or (λ d. refl) (default_words_at (Word Automatic ∷ ts))
default_same (t ∷ ts) = refl

export_same : (ts : List Lexeme) → made exports_or (perhaps is_exports_word exports_at ts) ≡ export_list_at ts
unfolding export_list_at
export_same [] = refl
export_same (Word Exports ∷ ts) = again exports_or (λ e. refl) (exports_at (Word Exports ∷ ts))
export_same (t ∷ ts) = refl

import_same : (fits : ℕ → Bool) (ts : List Lexeme)
    → made imports_or (perhaps is_imports_word (imports_at fits) ts) ≡ import_list_at fits ts
unfolding import_list_at
import_same fits [] = refl
import_same fits (Word Imports ∷ ts) = again imports_or (λ is. refl) (imports_at fits (Word Imports ∷ ts))
import_same fits (t ∷ ts) = refl

-- ---- what is owed

assign_no_default : (t : Lexeme) → is_assign t ≡ true → either is_default_word no_lexeme t ≡ false
assign_no_default (Mark Assign) e = refl
assign_no_default t e = absurd cc

definitions_no_brace : (t : Lexeme)
    → is_definitions t ≡ true
    → either no_lexeme (either is_open_brace no_lexeme) t ≡ false
definitions_no_brace (Word Definitions) e = refl
definitions_no_brace t e = absurd cc

-- what goes on with the exports
abbrev exports_end : Lexeme → Bool
exports_end = either no_lexeme (either is_exports_word (either no_lexeme no_lexeme))

imports_no_exports : (t : Lexeme) → is_imports_word t ≡ true → exports_end t ≡ false
imports_no_exports (Word Imports) e = refl
imports_no_exports t e = absurd cc

no_more : (t : Lexeme) → head_ends t ≡ false → either exports_end (either is_imports_word no_lexeme) t ≡ false
no_more (Word Exports) e = absurd cc
no_more (Word Imports) e = absurd cc
no_more t e = refl

module _ {over : Limit → ℕ} {within : Limit → Type 0} where
  -- the tree made of what may be empty
  loose_made : {A B : Type 0} {a : Grammar A} {starts ends : Lexeme → Bool} {r : Reader A} (f : A → B) (r' : Reader B)
      → ((ts : List Lexeme) → made f (r ts) ≡ r' ts)
      → Loose over within a starts ends r
      → Loose over within (a ⇒ f) starts ends r'
  loose_made {A} {B} {a} {starts} {ends} {r} f r' e k = record {
    sound = λ q. same_sound over (a ⇒ f) (λ ts. made f (r ts)) r' e (made_sound over a f r (k.sound q));
    finds = λ q. same_finds within (a ⇒ f) starts ends (λ ts. made f (r ts)) r' e (made_finds within a f starts ends r (k.finds q));
  }

  rule_assign : Rules over within (lexeme (Mark Assign)) is_assign no_lexeme assign_at
  rule_assign = rule_token assign_is

  rule_begin : Rules over within (word Begin) is_begin no_lexeme begin_at
  rule_begin = rule_token begin_is

  rule_definitions : Rules over within (lexeme (Word Definitions)) is_definitions no_lexeme definitions_at
  rule_definitions = rule_token definitions_is

  loose_default : Loose over within tag_default is_default_word (either is_default_word no_lexeme) tag_default_at
  loose_default = loose_made default_or tag_default_at default_same (loose_optional rule_default_words)

  rule_begun :
      Rules over within ((tag_default ∙ preceded (Mark Assign) (word Begin)) ⇒ (λ p. p.0)) (either is_default_word is_assign) no_lexeme begun_at
  unfolding begun_at
  rule_begun = rule_lead (λ p. p.0) loose_default (rule_preceded rule_assign rule_begin) assign_no_default

  loose_exports :
      Loose over within export_list is_exports_word (either is_exports_word (either no_lexeme no_lexeme)) export_list_at
  loose_exports = loose_made exports_or export_list_at export_same (loose_optional rule_exports)

-- fits is the reader's test on numbers, fits' the grammar's
module _ (over : Limit → ℕ) (within : Limit → Type 0) (fits fits' : ℕ → Bool)
    (grows : (n : ℕ) → fits n ≡ true → fits' n ≡ true) (past : Past (over Integer) ((n : ℕ) → fits' n ≡ true))
    (room : (n : ℕ) → fits' n ≡ true → within Integer → fits n ≡ true) where
  loose_imports :
      Loose over within (import_list fits') is_imports_word (either is_imports_word no_lexeme) (import_list_at fits)
  loose_imports = loose_made imports_or (import_list_at fits) (import_same fits) (loose_optional (rule_imports over within fits fits' grows past room))

  rule_heading : Rules over within (heading fits') is_typeref no_lexeme (heading_at fits)
  unfolding heading_at
  rule_heading =
      let k = rule_module over within fits fits' grows past room in
      rule_pair (module_ref fits') (preceded (Word Definitions) ((tag_default ∙ preceded (Mark Assign) (word Begin)) ⇒ (λ p. p.0))) k.solid (rule_seq (λ p. p) k (rule_preceded rule_definitions rule_begun) definitions_no_brace)

  rule_exporting : Rules over within (heading fits' ∙ export_list) is_typeref exports_end (exporting_at fits)
  unfolding exporting_at
  rule_exporting = rule_pair (heading fits') export_list rule_heading.solid (rule_tail (λ p. p) rule_heading loose_exports (λ t e. refl))

  pub rule_head : Rules over within (head fits') is_typeref head_ends (head_at fits)
  unfolding head_at
  rule_head = rule_tests is_typeref head_ends (λ t e. e) no_more (rule_tail head_of rule_exporting loose_imports imports_no_exports)

-- ---- if more numbers fit, there are more heads

more_made : {A B : Type 0} {a a' : Grammar A} (f : A → B) → Grows a a' → Grows (a ⇒ f) (a' ⇒ f)
more_made {A} {B} {a} {a'} f g = made_grows a a' f g

more_seq : {A B : Type 0} {a a' : Grammar A} {b b' : Grammar B} → Grows a a' → Grows b b' → Grows (a ∙ b) (a' ∙ b')
more_seq {A} {B} {a} {a'} {b} {b'} g h = seq_grows a a' b b' g h

more_many : {A : Type 0} {a a' : Grammar A} → Grows a a' → Grows (many a) (many a')
more_many {A} {a} {a'} g = many_grows a a' g

more_optional : {A : Type 0} {a a' : Grammar A} → Grows a a' → Grows (optional a) (optional a')
more_optional {A} {a} {a'} g = record { is = is; on = on }
  where
    is : (o : Option A) (u : List Lexeme) → (optional a).Is o u → (optional a').Is o u
    is None u h = h
    is (Some x) u h = g.is x u h

    on : (u : List Lexeme) → (optional a).IsPrefix u → (optional a').IsPrefix u
    on u (inl e) = inl e
    on u (inr h) = inr (g.on u h)

module _ (fits fits' : ℕ → Bool) (grows : (n : ℕ) → fits n ≡ true → fits' n ≡ true) where
  arc_grows : Grows (arc fits) (arc fits')
  arc_grows =
      either_grows (number_of fits ⇒ (λ _. tt)) (number_of fits' ⇒ (λ _. tt)) ((token Ident ∙ optional (parens (number_of fits))) ⇒ (λ _. tt)) ((token Ident ∙ optional (parens (number_of fits'))) ⇒ (λ _. tt))
      (more_made (λ _. tt) (number_grows fits fits' grows))
      (more_made (λ _. tt) (more_seq (same_grows (token Ident)) (more_optional (more_made (λ p. p.1.0) (more_seq (same_grows (mark OpenParenthesis)) (more_seq (number_grows fits fits' grows) (same_grows (mark CloseParenthesis))))))))

  oid_grows : Grows (oid fits) (oid fits')
  oid_grows = more_made (λ _. tt) (braces_grows (arc fits ∙ many (arc fits)) (arc fits' ∙ many (arc fits')) (more_seq arc_grows (more_many arc_grows)))

  ref_grows : Grows (module_ref fits) (module_ref fits')
  ref_grows = more_made (λ p. p.0) (more_seq (same_grows (token TypeRef)) (more_optional oid_grows))

  import_grows : Grows (import_from fits) (import_from fits')
  import_grows = more_made (λ p. record { names = p.0; from = p.1 }) (more_seq (same_grows symbols) (preceded_grows (Word From) (module_ref fits) (module_ref fits') ref_grows))

  imports_grow : Grows (imports fits) (imports fits')
  imports_grow =
      preceded_grows (Word Imports) ((many (import_from fits) ∙ mark Semicolon) ⇒ (λ p. p.0)) ((many (import_from fits') ∙ mark Semicolon) ⇒ (λ p. p.0))
      (more_made (λ p. p.0) (more_seq (more_many import_grows) (same_grows (mark Semicolon))))

  heading_grows : Grows (heading fits) (heading fits')
  heading_grows = more_seq ref_grows (same_grows (preceded (Word Definitions) ((tag_default ∙ preceded (Mark Assign) (word Begin)) ⇒ (λ p. p.0))))

  pub head_grows : Grows (head fits) (head fits')
  head_grows = more_made head_of (more_seq (more_seq heading_grows (same_grows export_list)) (more_made imports_or (more_optional imports_grow)))
