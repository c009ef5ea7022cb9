-- The readers of a module's head, and what their productions are owed.
use Rattle.std.proofs.Common.{◌≡◌, ℕ, Bool, true, false, List, [], ◌∷◌, Option, Some, None, Ok, Err, refl, sym, subst}
use Rattle.text.specs.declared.token.Mark.TheVariants.{Semicolon}
use Rattle.text.specs.declared.reserved.Word.TheVariants.{Explicit, Implicit, Automatic, Exports, All}
use Rattle.grammar.specs.Lexeme.{Lexeme, TypeRef, Ident, Word, Mark}
use Rattle.grammar.specs.Grammar.{Grammar, mark, word, only as lexeme, ◌∙◌, ◌∣◌, ◌⇒◌, optional}
use Rattle.grammar.specs.Reading.{Limit, Read, Reader, ◌>>=◌, stop, listed_at}
use Rattle.grammar.specs.Laws.{nowhere, everywhere, then_read, after_read}
use Rattle.grammar.specs.Lists.{no_lexeme, is_ident, with_comma}
use Rattle.grammar.specs.Loops.{sound_short}
use Rattle.grammar.specs.Short.{Short, short_of}
use Rattle.grammar.specs.Parts.{IsKind, pick, perhaps}
use Rattle.grammar.specs.Rules.{Rules, either, rule_token, rule_made, rule_seq, rule_preceded, rule_lead, rule_pick, rule_listed, loose_optional, rule_read, made, read_again, one_at, one_is}
use Rattle.trees.specs.Values.{Name}
use Rattle.trees.specs.declared.module.TagDefault.{TagDefault}
use Rattle.trees.specs.declared.module.TagDefault.TheVariants as defaults
use Rattle.grammar.specs.Single.{tags_at, module_name_at}
use Rattle.module_head.specs.Heading.{default_words, symbol, symbols, listed_names, exports}
use Rattle.module_head.specs.HeadingReading.{tag_word_at, default_words_at, semicolon_at, symbol_at, some_exports_at, all_exports_at, no_exports_at, exported_at, exports_at}
use Rattle.grammar.specs.Single.{tags_is, is_typeref, typeref_is}

-- ---- lexemes

unfoldable pub name_at : Reader (List ℕ)
name_at (Ident x ∷ rest) = Ok (x, rest)
name_at ts = stop ts

pub name_is : IsKind Ident is_ident name_at
unfolding name_at
name_is = record { yes = λ x. refl; one = one; nil = refl; hit = λ x ts. refl; miss = miss }
  where
    one : (s : Lexeme) → is_ident s ≡ true → (x : List ℕ) × (s ≡ Ident x)
    one (Ident x) e = (x, refl)
    one s e = absurd cc

    miss : (s : Lexeme) (ts : List Lexeme) → is_ident s ≡ false → name_at (s ∷ ts) ≡ stop (s ∷ ts)
    miss (Ident x) ts e = absurd cc
    miss s ts e = refl

abbrev pub is_explicit_word : Lexeme → Bool
is_explicit_word (Word Explicit) = true
is_explicit_word t = false

explicit_word_one : (t : Lexeme) → is_explicit_word t ≡ true → t ≡ Word Explicit
explicit_word_one (Word Explicit) e = refl
explicit_word_one t e = absurd cc

abbrev pub is_implicit_word : Lexeme → Bool
is_implicit_word (Word Implicit) = true
is_implicit_word t = false

implicit_word_one : (t : Lexeme) → is_implicit_word t ≡ true → t ≡ Word Implicit
implicit_word_one (Word Implicit) e = refl
implicit_word_one t e = absurd cc

abbrev pub is_automatic_word : Lexeme → Bool
is_automatic_word (Word Automatic) = true
is_automatic_word t = false

automatic_word_one : (t : Lexeme) → is_automatic_word t ≡ true → t ≡ Word Automatic
automatic_word_one (Word Automatic) e = refl
automatic_word_one t e = absurd cc

abbrev pub is_semicolon : Lexeme → Bool
is_semicolon (Mark Semicolon) = true
is_semicolon t = false

semicolon_one : (t : Lexeme) → is_semicolon t ≡ true → t ≡ Mark Semicolon
semicolon_one (Mark Semicolon) e = refl
semicolon_one t e = absurd cc

abbrev pub is_all_word : Lexeme → Bool
is_all_word (Word All) = true
is_all_word t = false

all_word_one : (t : Lexeme) → is_all_word t ≡ true → t ≡ Word All
all_word_one (Word All) e = refl
all_word_one t e = absurd cc

abbrev pub is_exports_word : Lexeme → Bool
is_exports_word (Word Exports) = true
is_exports_word t = false

exports_word_one : (t : Lexeme) → is_exports_word t ≡ true → t ≡ Word Exports
exports_word_one (Word Exports) e = refl
exports_word_one t e = absurd cc

-- ---- what is read is the same

abbrev tag_word : Grammar TagDefault
tag_word = word Explicit ⇒ (λ _. defaults.Explicit) ∣ word Implicit ⇒ (λ _. defaults.Implicit) ∣ word Automatic ⇒ (λ _. defaults.Automatic)

abbrev tag_word_read : Reader TagDefault
tag_word_read = pick is_explicit_word (λ ts. one_at is_explicit_word ts >>= λ x. Ok (defaults.Explicit, x.1)) (pick is_implicit_word (λ ts. one_at is_implicit_word ts >>= λ x. Ok (defaults.Implicit, x.1)) (λ ts. one_at is_automatic_word ts >>= λ x. Ok (defaults.Automatic, x.1)))

tag_word_same : (ts : List Lexeme) → tag_word_read ts ≡ tag_word_at ts
unfolding tag_word_at
tag_word_same [] = refl
tag_word_same (Word Explicit ∷ ts) = refl
tag_word_same (Word Implicit ∷ ts) = refl
tag_word_same (Word Automatic ∷ ts) = refl
tag_word_same (t ∷ ts) = refl

default_same : (ts : List Lexeme)
    → then_read (λ (p : TagDefault × Unit {0}). p.0) tag_word_at tags_at ts ≡ default_words_at ts
unfolding default_words_at
default_same ts = refl

symbol_same : (ts : List Lexeme) → pick is_typeref module_name_at name_at ts ≡ symbol_at ts
unfolding module_name_at name_at symbol_at
symbol_same [] = refl
symbol_same (TypeRef x ∷ ts) = refl
symbol_same (Ident x ∷ ts) = refl
symbol_same (t ∷ ts) = refl

semicolon_same : (ts : List Lexeme) → one_at is_semicolon ts ≡ semicolon_at ts
unfolding semicolon_at
semicolon_same [] = refl
semicolon_same (Mark Semicolon ∷ ts) = refl
semicolon_same (t ∷ ts) = refl

abbrev pub is_symbol : Lexeme → Bool
is_symbol = either is_typeref is_ident

abbrev of_list : Option (List Name) × Unit {0} → Option (List Name)
of_list p = Some (listed_names p.0)

-- names, if there are any, and the semicolon
abbrev list_read : Reader (Option (List Name))
list_read = then_read of_list (perhaps is_symbol (listed_at symbol_at)) semicolon_at

some_same : (r : Read (List Name))
    → after_read of_list (made Some r) semicolon_at ≡ after_read (λ (p : List Name × Unit {0}). Some p.0) r semicolon_at
some_same (Ok xs) = refl
some_same (Err f) = refl

abbrev export_read : Reader (Option (List Name))
export_read = pick is_all_word (then_read (λ (p : Unit {0} × Unit {0}). None) (one_at is_all_word) semicolon_at) list_read

exported_same : (ts : List Lexeme) → export_read ts ≡ exported_at ts
unfolding exported_at some_exports_at all_exports_at no_exports_at
exported_same [] = refl
exported_same (Word All ∷ ts) = refl
exported_same (TypeRef x ∷ ts) = some_same (listed_at symbol_at (TypeRef x ∷ ts))
exported_same (Ident x ∷ ts) = some_same (listed_at symbol_at (Ident x ∷ ts))
exported_same (t ∷ ts) = refl

exports_same : (ts : List Lexeme)
    → then_read (λ (p : Unit {0} × Option (List Name)). p.1) (one_at is_exports_word) exported_at ts ≡ exports_at ts
unfolding exports_at
exports_same [] = refl
exports_same (Word Exports ∷ ts) = read_again (exported_at ts)
exports_same (t ∷ ts) = refl

-- ---- what is owed

implicit_no_explicit : (t : Lexeme) → either is_implicit_word is_automatic_word t ≡ true → is_explicit_word t ≡ false
implicit_no_explicit (Word Explicit) e = absurd cc
implicit_no_explicit t e = refl

automatic_no_implicit : (t : Lexeme) → is_automatic_word t ≡ true → is_implicit_word t ≡ false
automatic_no_implicit (Word Implicit) e = absurd cc
automatic_no_implicit t e = refl

ident_no_typeref : (t : Lexeme) → is_ident t ≡ true → is_typeref t ≡ false
ident_no_typeref (TypeRef x) e = absurd cc
ident_no_typeref t e = refl

list_no_all : (t : Lexeme) → either is_symbol is_semicolon t ≡ true → is_all_word t ≡ false
list_no_all (Word All) e = absurd cc
list_no_all t e = refl

-- lexemes that may not come after names
abbrev after_names : Lexeme → Bool
after_names = either is_symbol (with_comma (either no_lexeme no_lexeme))

semicolon_after : (t : Lexeme) → is_semicolon t ≡ true → after_names t ≡ false
semicolon_after t e = subst (λ (t : Lexeme). after_names t ≡ false) (sym (semicolon_one t e)) refl

module _ {over : Limit → ℕ} {within : Limit → Type 0} where
  rule_explicit_word : Rules over within (lexeme (Word Explicit)) is_explicit_word no_lexeme (one_at is_explicit_word)
  rule_explicit_word = rule_token (one_is (Word Explicit) is_explicit_word refl explicit_word_one)

  rule_implicit_word : Rules over within (lexeme (Word Implicit)) is_implicit_word no_lexeme (one_at is_implicit_word)
  rule_implicit_word = rule_token (one_is (Word Implicit) is_implicit_word refl implicit_word_one)

  rule_automatic_word :
      Rules over within (lexeme (Word Automatic)) is_automatic_word no_lexeme (one_at is_automatic_word)
  rule_automatic_word = rule_token (one_is (Word Automatic) is_automatic_word refl automatic_word_one)

  rule_semicolon : Rules over within (lexeme (Mark Semicolon)) is_semicolon no_lexeme (one_at is_semicolon)
  rule_semicolon = rule_token (one_is (Mark Semicolon) is_semicolon refl semicolon_one)

  rule_all_word : Rules over within (lexeme (Word All)) is_all_word no_lexeme (one_at is_all_word)
  rule_all_word = rule_token (one_is (Word All) is_all_word refl all_word_one)

  rule_exports_word : Rules over within (lexeme (Word Exports)) is_exports_word no_lexeme (one_at is_exports_word)
  rule_exports_word = rule_token (one_is (Word Exports) is_exports_word refl exports_word_one)

  pub rule_end : Rules over within (mark Semicolon) is_semicolon no_lexeme semicolon_at
  rule_end = rule_read semicolon_at semicolon_same rule_semicolon

  rule_tag_word :
      Rules over within tag_word (either is_explicit_word (either is_implicit_word is_automatic_word)) (either no_lexeme (either no_lexeme no_lexeme)) tag_word_at
  rule_tag_word =
      rule_read tag_word_at tag_word_same
      (rule_pick (rule_made (λ _. defaults.Explicit) rule_explicit_word) (rule_pick (rule_made (λ _. defaults.Implicit) rule_implicit_word) (rule_made (λ _. defaults.Automatic) rule_automatic_word) automatic_no_implicit) implicit_no_explicit)

  pub rule_default_words :
      Rules over within default_words (either is_explicit_word (either is_implicit_word is_automatic_word)) no_lexeme default_words_at
  rule_default_words = rule_read default_words_at default_same (rule_seq (λ p. p.0) rule_tag_word (rule_token tags_is) (λ t e. refl))

  pub rule_symbol : Rules over within symbol is_symbol (either no_lexeme no_lexeme) symbol_at
  rule_symbol = rule_read symbol_at symbol_same (rule_pick (rule_token typeref_is) (rule_token name_is) ident_no_typeref)

  pub rule_symbols : Rules over within symbols is_symbol (with_comma (either no_lexeme no_lexeme)) (listed_at symbol_at)
  rule_symbols = rule_listed rule_symbol refl

  rule_exported :
      Rules over within ((word All ∙ mark Semicolon) ⇒ (λ _. None) ∣ (optional symbols ∙ mark Semicolon) ⇒ (λ p. Some (listed_names p.0))) (either is_all_word (either is_symbol is_semicolon)) (either no_lexeme no_lexeme) exported_at
  rule_exported = rule_read exported_at exported_same (rule_pick (rule_seq (λ _. None) rule_all_word rule_end (λ t e. refl)) (rule_lead (λ p. Some (listed_names p.0)) (loose_optional rule_symbols) rule_end semicolon_after) list_no_all)

  pub rule_exports : Rules over within exports is_exports_word (either no_lexeme no_lexeme) exports_at
  rule_exports = rule_read exports_at exports_same (rule_preceded rule_exports_word rule_exported)

pub symbol_short : Short symbol_at
symbol_short = short_of symbol_at (record { shorter = λ ts x e. sound_short symbol ts (symbol_at ts) x e ((rule_symbol {over = nowhere} {within = everywhere}).sound tt ts) })
