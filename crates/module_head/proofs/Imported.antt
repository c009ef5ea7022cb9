-- The readers of imports, and what their productions are owed.
use Rattle.std.proofs.Common.{◌≡◌, ℕ, Bool, true, false, List, [], ◌∷◌, length, Option, Some, Ok, Err, refl, sym, ap, subst, ◌++◌, ◌∙◌ as ◌⋆◌}
use Rattle.text.specs.declared.token.Mark.TheVariants.{OpenBrace, CloseBrace, OpenParenthesis, Semicolon}
use Rattle.text.specs.declared.reserved.Word.TheVariants.{Imports, From}
use Rattle.grammar.specs.Lexeme.{Lexeme, TypeRef, Ident, Number, Word, Mark}
use Rattle.grammar.specs.Grammar.{token, mark, only as lexeme, number_of, ◌∙◌, ◌⇒◌, many, optional, preceded}
use Rattle.grammar.specs.Reading.{Limit, Integer, Fault, Read, Reader, ◌>>=◌, closed_at, many_at, with_front}
use Rattle.grammar.specs.Laws.{everywhere, nowhere, then_read, after_read}
use Rattle.grammar.specs.Manies.{Consumes, consumes, is_begun_by, many_more, many_end, many_fail}
use Rattle.grammar.specs.Places.{small}
use Rattle.parser_combinators.specs.declared.read_error.ReadError.{ReadError}
use Rattle.parser_combinators.specs.declared.read_error.ReadError.TheVariants as errors
use Rattle.parser_combinators.specs.Given.{Fails}
use Rattle.grammar.specs.Lists.{no_lexeme, is_ident, with_comma}
use Rattle.grammar.specs.Numbers.{Past}
use Rattle.grammar.specs.Parts.{pick, perhaps}
use Rattle.grammar.specs.Parens.{rule_parens}
use Rattle.grammar.specs.Rules.{Rules, either, rule_token, rule_made, rule_seq, rule_preceded, rule_tail, rule_lead, rule_pair, rule_pick, loose_optional, loose_many, rule_read, rule_tests, is_number, number_at, rule_number, fitting_made, made, read_again, one_at, one_is}
use Rattle.grammar.specs.Reading.{is_open, parens_at}
use Rattle.grammar.specs.Grammar.{parens}
use Rattle.trees.specs.Values.{Name}
use Rattle.trees.specs.Modules.{ImportTree}
use Rattle.grammar.specs.Single.{module_name_at}
use Rattle.module_head.specs.Heading.{arc, oid, import_from, imports}
use Rattle.module_head.specs.ImportReading.{begins_arc, begins_symbol, arc_number_at, after_arc_at, arc_at, more_arcs_at, arcs_at, oid_at, after_module_at, module_ref_at, from_module_at, import_from_at, imported_at, imports_at}
use Rattle.grammar.specs.Single.{is_typeref, typeref_is}
use Rattle.module_head.proofs.Headings.{name_at, name_is, is_semicolon, rule_end, rule_symbols, is_symbol}

abbrev is_from_word : Lexeme → Bool
is_from_word (Word From) = true
is_from_word t = false

from_word_one : (t : Lexeme) → is_from_word t ≡ true → t ≡ Word From
from_word_one (Word From) e = refl
from_word_one t e = absurd cc

abbrev pub is_imports_word : Lexeme → Bool
is_imports_word (Word Imports) = true
is_imports_word t = false

imports_word_one : (t : Lexeme) → is_imports_word t ≡ true → t ≡ Word Imports
imports_word_one (Word Imports) e = refl
imports_word_one t e = absurd cc

abbrev pub is_open_brace : Lexeme → Bool
is_open_brace (Mark OpenBrace) = true
is_open_brace t = false

open_brace_one : (t : Lexeme) → is_open_brace t ≡ true → t ≡ Mark OpenBrace
open_brace_one (Mark OpenBrace) e = refl
open_brace_one t e = absurd cc

abbrev is_close_brace : Lexeme → Bool
is_close_brace (Mark CloseBrace) = true
is_close_brace t = false

close_brace_one : (t : Lexeme) → is_close_brace t ≡ true → t ≡ Mark CloseBrace
close_brace_one (Mark CloseBrace) e = refl
close_brace_one t e = absurd cc

closed_same : (ts : List Lexeme) → one_at is_close_brace ts ≡ closed_at ts
unfolding closed_at
closed_same [] = refl
closed_same (Mark CloseBrace ∷ ts) = refl
closed_same (t ∷ ts) = refl

module _ {over : Limit → ℕ} {within : Limit → Type 0} where
  rule_from_word : Rules over within (lexeme (Word From)) is_from_word no_lexeme (one_at is_from_word)
  rule_from_word = rule_token (one_is (Word From) is_from_word refl from_word_one)

  rule_imports_word : Rules over within (lexeme (Word Imports)) is_imports_word no_lexeme (one_at is_imports_word)
  rule_imports_word = rule_token (one_is (Word Imports) is_imports_word refl imports_word_one)

  rule_open_brace : Rules over within (lexeme (Mark OpenBrace)) is_open_brace no_lexeme (one_at is_open_brace)
  rule_open_brace = rule_token (one_is (Mark OpenBrace) is_open_brace refl open_brace_one)

  rule_close_brace : Rules over within (lexeme (Mark CloseBrace)) is_close_brace no_lexeme (one_at is_close_brace)
  rule_close_brace = rule_token (one_is (Mark CloseBrace) is_close_brace refl close_brace_one)

  rule_closed : Rules over within (mark CloseBrace) is_close_brace no_lexeme closed_at
  rule_closed = rule_read closed_at closed_same rule_close_brace

-- fits is the reader's test on numbers, fits' the grammar's
module _ (over : Limit → ℕ) (within : Limit → Type 0) (fits fits' : ℕ → Bool)
    (grows : (n : ℕ) → fits n ≡ true → fits' n ≡ true) (past : Past (over Integer) ((n : ℕ) → fits' n ≡ true))
    (room : (n : ℕ) → fits' n ≡ true → within Integer → fits n ≡ true) where
  -- ---- object identifiers

  rule_arc_number : Rules over within (parens (number_of fits')) is_open no_lexeme (parens_at (number_at fits))
  rule_arc_number = rule_parens (rule_number over within fits fits' grows past room) refl

  abbrev named_read : Reader (Unit {0})
  named_read = then_read (λ (p : Name × Option ℕ). tt) name_at (perhaps is_open (parens_at (number_at fits)))

  after_arc_same : (x : Name) (ts : List Lexeme)
      →
      made {B = Unit {0}} (λ (o : Option ℕ). tt) (perhaps is_open (parens_at (number_at fits)) ts) ≡ after_arc_at fits ts
  unfolding after_arc_at arc_number_at
  after_arc_same x [] = refl
  after_arc_same x (Mark OpenParenthesis ∷ ts) = go (parens_at (number_at fits) (Mark OpenParenthesis ∷ ts))
    where
      go : (r : Read ℕ)
          → made {B = Unit {0}} (λ (o : Option ℕ). tt) (made Some r) ≡ made {B = Unit {0}} (λ (n : ℕ). tt) r
      go (Ok n) = refl
      go (Err f) = refl
  after_arc_same x (t ∷ ts) = refl

  arc_same : (ts : List Lexeme)
      → pick is_number (λ ts. number_at fits ts >>= λ n. Ok (tt, n.1)) named_read ts ≡ arc_at fits ts
  unfolding number_at name_at arc_at
  arc_same [] = refl
  arc_same (Number n ∷ ts) = fitting_made (λ n. tt) (fits n) n (Number n ∷ ts) ts
  arc_same (Ident x ∷ ts) = after_arc_same x ts
  arc_same (t ∷ ts) = refl

  ident_no_number : (t : Lexeme) → is_ident t ≡ true → is_number t ≡ false
  ident_no_number (Number n) e = absurd cc
  ident_no_number t e = refl

  arc_tests : (t : Lexeme) → either is_number is_ident t ≡ true → begins_arc t ≡ true
  arc_tests (Number n) e = refl
  arc_tests (Ident x) e = refl
  arc_tests t e = absurd cc

  arc_ends : (t : Lexeme) → is_open t ≡ false → either no_lexeme (either no_lexeme (either is_open no_lexeme)) t ≡ false
  arc_ends (Mark OpenParenthesis) e = absurd cc
  arc_ends t e = refl

  pub rule_arc : Rules over within (arc fits') begins_arc is_open (arc_at fits)
  rule_arc =
      rule_tests begins_arc is_open arc_tests arc_ends
      (rule_read (arc_at fits) arc_same (rule_pick (rule_made (λ _. tt) (rule_number over within fits fits' grows past room)) (rule_tail (λ _. tt) (rule_token name_is) (loose_optional rule_arc_number) (λ t e. refl)) ident_no_number))

  arc_apart : (t : Lexeme) → begins_arc t ≡ true → is_open t ≡ false
  arc_apart (Mark OpenParenthesis) e = absurd cc
  arc_apart t e = refl

  abbrev arcs_ends : Lexeme → Bool
  arcs_ends = either is_open (either begins_arc is_open)

  close_apart : (t : Lexeme) → is_close_brace t ≡ true → arcs_ends t ≡ false
  close_apart t e = subst (λ (t : Lexeme). arcs_ends t ≡ false) (sym (close_brace_one t e)) refl

  abbrev arcs_read : Reader (Unit {0} × List (Unit {0}))
  arcs_read = then_read (λ p. p) (arc_at fits) (λ us. many_at begins_arc (arc_at fits) (length us) us)

  rule_arcs : Rules over within (arc fits' ∙ many (arc fits')) begins_arc arcs_ends arcs_read
  rule_arcs = rule_pair (arc fits') (many (arc fits')) rule_arc.solid (rule_tail (λ p. p) rule_arc (loose_many rule_arc arc_apart) arc_apart)

  abbrev Arcs : Type 0
  Arcs = Unit {0} × List (Unit {0})

  ending : (r : Read (Unit {0})) (a : Arcs)
      →
      made {B = Unit {0}} (λ (x : Arcs). tt) (made (λ (p : Arcs × Unit {0}). p.0) (made (λ (u : Unit {0}). (a, u)) r)) ≡ r
  ending (Ok x) a = refl
  ending (Err f) a = refl

  many_then : (u : Unit {0}) (r : Read (List (Unit {0})))
      →
      made {B = Unit {0}} (λ (x : Arcs). tt) (made (λ (p : Arcs × Unit {0}). p.0) (after_read (λ (p : Arcs × Unit {0}). p) (made (λ (xs : List (Unit {0})). (u, xs)) r) closed_at)) ≡ (made {B = Unit {0}} (λ (xs : List (Unit {0})). tt) r >>= λ a. closed_at a.1)
  many_then u (Ok xs) = ending (closed_at xs.1) (u, xs.0)
  many_then u (Err f) = refl

  first_then : (r : Read (Unit {0}))
      →
      made {B = Unit {0}} (λ (x : Arcs). tt) (made (λ (p : Arcs × Unit {0}). p.0) (after_read (λ (p : Arcs × Unit {0}). p) (after_read (λ (p : Arcs). p) r (λ us. many_at begins_arc (arc_at fits) (length us) us)) closed_at)) ≡ ((r >>= λ a. more_arcs_at fits a.1) >>= λ a. closed_at a.1)
  unfolding more_arcs_at
  first_then (Ok a) = many_then a.0 (many_at begins_arc (arc_at fits) (length a.1) a.1)
  first_then (Err f) = refl

  oid_same : (ts : List Lexeme)
      →
      made {B = Unit {0}} (λ (x : Arcs). tt) (then_read (λ (p : Unit {0} × (Arcs × Unit {0})). p.1.0) (one_at is_open_brace) (then_read (λ p. p) arcs_read closed_at) ts) ≡ oid_at fits ts
  unfolding oid_at arcs_at
  oid_same [] = refl
  oid_same (Mark OpenBrace ∷ ts) = first_then (arc_at fits ts)
  oid_same (t ∷ ts) = refl

  pub rule_oid : Rules over within (oid fits') is_open_brace no_lexeme (oid_at fits)
  rule_oid =
      rule_read (oid_at fits) oid_same
      (rule_made (λ _. tt) (rule_seq (λ p. p.1.0) rule_open_brace (rule_pair (arc fits' ∙ many (arc fits')) (mark CloseBrace) rule_arcs.solid (rule_seq (λ p. p) rule_arcs rule_closed close_apart)) (λ t e. refl)))

  -- ---- imports

  abbrev name_of : Name × Option (Unit {0}) → Name
  name_of p = p.0

  after_module_same : (m : Name) (ts : List Lexeme)
      → made (λ (o : Option (Unit {0})). m) (perhaps is_open_brace (oid_at fits) ts) ≡ after_module_at fits m ts
  unfolding after_module_at
  after_module_same m [] = refl
  after_module_same m (Mark OpenBrace ∷ ts) = go (oid_at fits (Mark OpenBrace ∷ ts))
    where
      go : (r : Read (Unit {0})) → made (λ (o : Option (Unit {0})). m) (made Some r) ≡ made (λ (u : Unit {0}). m) r
      go (Ok u) = refl
      go (Err f) = refl
  after_module_same m (t ∷ ts) = refl

  module_same : (ts : List Lexeme)
      → then_read name_of module_name_at (perhaps is_open_brace (oid_at fits)) ts ≡ module_ref_at fits ts
  unfolding module_name_at module_ref_at
  module_same [] = refl
  module_same (TypeRef m ∷ ts) = after_module_same m ts
  module_same (t ∷ ts) = refl

  pub rule_module :
      Rules over within ((token TypeRef ∙ optional (oid fits')) ⇒ (λ p. p.0)) is_typeref (either no_lexeme (either is_open_brace no_lexeme)) (module_ref_at fits)
  rule_module = rule_read (module_ref_at fits) module_same (rule_tail (λ p. p.0) (rule_token typeref_is) (loose_optional rule_oid) (λ t e. refl))

  from_same : (ts : List Lexeme)
      → then_read (λ (p : Unit {0} × Name). p.1) (one_at is_from_word) (module_ref_at fits) ts ≡ from_module_at fits ts
  unfolding from_module_at
  from_same [] = refl
  from_same (Word From ∷ ts) = read_again (module_ref_at fits ts)
  from_same (t ∷ ts) = refl

  rule_from :
      Rules over within (preceded (Word From) ((token TypeRef ∙ optional (oid fits')) ⇒ (λ p. p.0))) is_from_word (either no_lexeme (either is_open_brace no_lexeme)) (from_module_at fits)
  rule_from = rule_read (from_module_at fits) from_same (rule_preceded rule_from_word rule_module)

  abbrev an_import : List Name × Name → ImportTree
  an_import p = record { names = p.0; from = p.1 }

  import_tests : (t : Lexeme) → is_symbol t ≡ true → begins_symbol t ≡ true
  import_tests (TypeRef x) e = refl
  import_tests (Ident x) e = refl
  import_tests t e = absurd cc

  import_ends : (t : Lexeme) → is_open_brace t ≡ false → either no_lexeme (either is_open_brace no_lexeme) t ≡ false
  import_ends (Mark OpenBrace) e = absurd cc
  import_ends t e = refl

  from_apart : (t : Lexeme) → is_from_word t ≡ true → with_comma (either no_lexeme no_lexeme) t ≡ false
  from_apart t e = subst (λ (t : Lexeme). with_comma (either no_lexeme no_lexeme) t ≡ false) (sym (from_word_one t e)) refl

  pub rule_import : Rules over within (import_from fits') begins_symbol is_open_brace (import_from_at fits)
  unfolding import_from_at
  rule_import = rule_tests begins_symbol is_open_brace import_tests import_ends (rule_seq an_import rule_symbols rule_from from_apart)

  symbol_apart : (t : Lexeme) → begins_symbol t ≡ true → is_open_brace t ≡ false
  symbol_apart (Mark OpenBrace) e = absurd cc
  symbol_apart t e = refl

  end_apart : (t : Lexeme) → is_semicolon t ≡ true → either begins_symbol is_open_brace t ≡ false
  end_apart (Mark Semicolon) e = refl
  end_apart t e = absurd cc

  rule_imported :
      Rules over within ((many (import_from fits') ∙ mark Semicolon) ⇒ (λ p. p.0)) (either begins_symbol is_semicolon) no_lexeme (imported_at fits)
  unfolding imported_at
  rule_imported = rule_lead (λ p. p.0) (loose_many rule_import symbol_apart) rule_end end_apart

  imports_same : (ts : List Lexeme)
      →
      then_read (λ (p : Unit {0} × List ImportTree). p.1) (one_at is_imports_word) (imported_at fits) ts ≡ imports_at fits ts
  unfolding imports_at
  imports_same [] = refl
  imports_same (Word Imports ∷ ts) = read_again (imported_at fits ts)
  imports_same (t ∷ ts) = refl

  pub rule_imports : Rules over within (imports fits') is_imports_word no_lexeme (imports_at fits)
  rule_imports = rule_read (imports_at fits) imports_same (rule_preceded rule_imports_word rule_imported)

-- ---- what the loops keep

pub arc_consumes : Consumes (arc_at small)
arc_consumes = let k = rule_arc nowhere everywhere small small (λ n e. e) tt (λ n e t. e) in consumes (arc small) (arc_at small) k.solid (k.sound tt)

pub import_consumes : Consumes (import_from_at small)
import_consumes = let k = rule_import nowhere everywhere small small (λ n e. e) tt (λ n e t. e) in consumes (import_from small) (import_from_at small) k.solid (k.sound tt)

-- arcs, which are read without a tree
abbrev skipped : Read (List (Unit {0})) → Read (Unit {0})
skipped r = made {B = Unit {0}} (λ (xs : List (Unit {0})). tt) r

skip_front : (front : List (Unit {0})) (r : Read (List (Unit {0}))) → skipped (with_front front r) ≡ skipped r
skip_front front (Ok xs) = refl
skip_front front (Err f) = refl

abbrev arcs_from : List Lexeme → Read (List (Unit {0}))
arcs_from ts = many_at begins_arc (arc_at small) (length ts) ts

pub arcs_more : (ts : List Lexeme) (x : Unit {0} × List Lexeme) (total : Read (Unit {0}))
    → is_begun_by begins_arc ts ≡ true
    → arc_at small ts ≡ Ok x
    → skipped (arcs_from ts) ≡ total
    → skipped (arcs_from x.1) ≡ total
arcs_more ts x total b r h =
    let e = many_more begins_arc (arc_at small) arc_consumes ts x [] (with_front [] (arcs_from ts)) b r refl in
    sym (skip_front ([] ++ x.0 ∷ []) (arcs_from x.1)) ⋆ ap skipped e ⋆ skip_front [] (arcs_from ts) ⋆ h

pub arcs_end : (ts : List Lexeme) (total : Read (Unit {0}))
    → is_begun_by begins_arc ts ≡ false
    → skipped (arcs_from ts) ≡ total
    → total ≡ Ok (tt, ts)
arcs_end ts total b h =
    let e = many_end begins_arc (arc_at small) ts [] (with_front [] (arcs_from ts)) b refl in
    sym h ⋆ sym (skip_front [] (arcs_from ts)) ⋆ ap skipped e

arcs_fail : (ts : List Lexeme) (f : Fault) (total : Read (Unit {0}))
    → is_begun_by begins_arc ts ≡ true
    → arc_at small ts ≡ Err f
    → skipped (arcs_from ts) ≡ total
    → total ≡ Err f
arcs_fail ts f total b r h =
    let e = many_fail begins_arc (arc_at small) ts f [] (with_front [] (arcs_from ts)) b r refl in
    sym h ⋆ sym (skip_front [] (arcs_from ts)) ⋆ ap skipped e

pub arcs_give_up : (ts : List Lexeme) (e : ReadError) (total : Read (Unit {0}))
    → is_begun_by begins_arc ts ≡ true
    → Fails e (arc_at small ts)
    → skipped (arcs_from ts) ≡ total
    → Fails e total
arcs_give_up ts errors.Memory total b r h = tt
arcs_give_up ts (errors.Unexpected n) total b r h = arcs_fail ts _ total b r h
arcs_give_up ts (errors.Limit l n) total b r h = arcs_fail ts _ total b r h
