-- The grammar of the head of a module, with its exports and imports (X.680, clauses 13.1 to 13.16).
use Rattle.std.specs.Prelude.{ℕ, Bool, List, [], Option, Some, None}
use Rattle.text.specs.declared.token.Mark.TheVariants.{Assign, Semicolon}
use Rattle.text.specs.declared.reserved.Word.TheVariants.{Definitions, Explicit, Implicit, Automatic, Tags, Begin, Exports, All, Imports, From}
use Rattle.grammar.specs.Lexeme.{TypeRef, Ident, Word, Mark}
use Rattle.grammar.specs.Grammar.{Grammar, token, mark, word, number_of, ◌∙◌, ◌∣◌, ◌⇒◌, many, optional, preceded, listed, braces}
use Rattle.trees.specs.Values.{Name}
use Rattle.grammar.specs.Grammar.{parens}
use Rattle.trees.specs.declared.module.TagDefault.{TagDefault}
use Rattle.trees.specs.declared.module.TagDefault.TheVariants as defaults
use Rattle.trees.specs.Modules.{ImportTree}

-- EXPLICIT, IMPLICIT or AUTOMATIC, and then TAGS
abbrev pub default_words : Grammar TagDefault
default_words =
    ((word Explicit ⇒ (λ _. defaults.Explicit)
    ∣ word Implicit ⇒ (λ _. defaults.Implicit)
    ∣ word Automatic ⇒ (λ _. defaults.Automatic))
    ∙ word Tags)
    ⇒ (λ p. p.0)

-- the tag default; EXPLICIT if none is written
abbrev pub default_or : Option TagDefault → TagDefault
default_or None = defaults.Explicit
default_or (Some d) = d

-- the tag default of a module, EXPLICIT if none is written
abbrev pub tag_default : Grammar TagDefault
tag_default = optional default_words ⇒ default_or

-- a name that is exported or imported, of a type or of a value
abbrev pub symbol : Grammar Name
symbol = token TypeRef ∣ token Ident

-- one or more such names, with commas between
abbrev pub symbols : Grammar (List Name)
symbols = listed symbol

-- the names that EXPORTS lists, none if no name is written after it
abbrev pub listed_names : Option (List Name) → List Name
listed_names None = []
listed_names (Some xs) = xs

-- the names that are exported, None for ALL
abbrev pub exports : Grammar (Option (List Name))
exports =
    preceded (Word Exports) (
    (word All ∙ mark Semicolon) ⇒ (λ _. None)
    ∣ (optional symbols ∙ mark Semicolon) ⇒ (λ p. Some (listed_names p.0)))

-- the exports; None, which means all names that are assigned, if no exports are written
abbrev pub exports_or : Option (Option (List Name)) → Option (List Name)
exports_or None = None
exports_or (Some e) = e

-- the exports of a module, None if it exports all names that it assigns: EXPORTS ALL, or no EXPORTS
abbrev pub export_list : Grammar (Option (List Name))
export_list = optional exports ⇒ exports_or

-- the imports; an empty list if none are written
abbrev pub imports_or : Option (List ImportTree) → List ImportTree
imports_or None = []
imports_or (Some is) = is

-- what comes before the assignments of a module
pub record HeadTree : Type 0 where
  pub name : Name
  pub tag_default : TagDefault
  pub exports : Option (List Name)
  pub imports : List ImportTree

-- the head of a module, from its name and tag default, its exports and its imports
abbrev pub head_of : ((Name × TagDefault) × Option (List Name)) × List ImportTree → HeadTree
head_of p = record { name = p.0.0.0; tag_default = p.0.0.1; exports = p.0.1; imports = p.1 }

-- A limit on numbers is a test: numbers without a minus must pass it.
module _ (fits : ℕ → Bool) where
  -- a part of an object identifier: a number, or a name with a number in parentheses or none (X.680, clause 32.3)
  abbrev pub arc : Grammar (Unit {0})
  arc =
      number_of fits ⇒ (λ _. tt)
      ∣ (token Ident ∙ optional (parens (number_of fits))) ⇒ (λ _. tt)

  -- an object identifier after a module's name, which has no meaning here (own rule)
  abbrev pub oid : Grammar (Unit {0})
  oid = braces (arc ∙ many arc) ⇒ (λ _. tt)

  -- a module's name, with an object identifier after it or none
  abbrev pub module_ref : Grammar Name
  module_ref = (token TypeRef ∙ optional oid) ⇒ (λ p. p.0)

  -- names, FROM, and the module that they are imported from
  abbrev pub import_from : Grammar ImportTree
  import_from = (symbols ∙ preceded (Word From) module_ref) ⇒ (λ p. record { names = p.0; from = p.1 })

  -- IMPORTS, any number of imports from modules, and a semicolon
  abbrev pub imports : Grammar (List ImportTree)
  imports = preceded (Word Imports) ((many import_from ∙ mark Semicolon) ⇒ (λ p. p.0))

  -- the imports of a module, an empty list if there is no IMPORTS
  abbrev pub import_list : Grammar (List ImportTree)
  import_list = optional imports ⇒ imports_or

  -- a module up to and with BEGIN, of which its name and its tag default are kept
  abbrev pub heading : Grammar (Name × TagDefault)
  heading =
      module_ref
      ∙ preceded (Word Definitions) ((tag_default ∙ preceded (Mark Assign) (word Begin)) ⇒ (λ p. p.0))

  -- what comes before the assignments of a module: up to BEGIN, the exports and the imports
  abbrev pub head : Grammar HeadTree
  head = ((heading ∙ export_list) ∙ import_list) ⇒ head_of
