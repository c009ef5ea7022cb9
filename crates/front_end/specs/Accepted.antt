-- Accepted texts: each is a module, and together the modules keep all that is required (X.680, clauses 12 to 51).
use Rattle.std.specs.Prelude.{ℕ, List, Vec}
use Rattle.std.specs.Global.{Global}
use Rattle.std.specs.List.{AllZip}
use Rattle.asn_base.specs.Types.{Resolved}
use Rattle.text.specs.declared.token.Token.{Token}
use Rattle.grammar.specs.Lexeme.{lexemes}
use Rattle.grammar.specs.Places.{bounded}
use Rattle.parser_combinators.specs.Given.{IsLexed}
use Rattle.trees.specs.Modules.{ModuleTree}
use Rattle.syntax.specs.Syntax.{module_text}
use Rattle.resolve.specs.Links.{Links}
use Rattle.resolve.specs.Program.{Program}
use Rattle.tagging.specs.Tagged.{IsTagged}
use Rattle.constraints.specs.Bounded.{AreBounded}
use Rattle.extensions.specs.SchemaOfModules.{IsLinkedProgram, IsWellTyped, SchemaOfModules}

-- the octets of a text
abbrev pub octets_of : Vec ℕ Global → List ℕ
octets_of v = v.items

-- Text x has tokens, and they are those of module m, with at most 128 parts open at one place (own rule; X.680, clauses
-- 12 and 13).
pub record IsModule (x : List ℕ) (m : ModuleTree) : Type 0 where
  pub tokens : List Token
  pub lexed : IsLexed x tokens
  pub tree : (module_text (bounded 128)).Is m (lexemes x tokens)

-- The texts xs are accepted as program p.
pub record AreAccepted (xs : List (List ℕ)) (p : Program) : Type 0 where
  -- each text has tokens and is its module
  pub modules : List ModuleTree
  pub are : AllZip IsModule xs modules
  -- the modules' names have their meanings
  pub links : Links modules p
  -- the types have their tags, and first tags are distinct where they must be
  pub tagged : IsTagged p.types
  -- each constraint has a meaning, and allows something
  pub bounded : AreBounded p
  -- additions after markers are at allowed places; the notations of DEFAULTs and value assignments mean values of their
  -- types
  pub asked : IsWellTyped p

-- the additions, DEFAULTs and values of program p are as required, and s are its types, which are an accepted schema
abbrev pub HasTypes : Program → List Resolved → Type 0
HasTypes p s = SchemaOfModules p s

-- The texts xs are accepted as program p, and s are its types.
pub record Accepted (xs : List (List ℕ)) (p : Program) (s : List Resolved) : Type 0 where
  pub accepted : AreAccepted xs p
  pub types : HasTypes p s

-- What holds of the program of accepted texts. It is one that parsing and linking can give; its types have their tags,
-- and its constraints have their meanings. Its additions, DEFAULTs and values are as required.
pub record IsCheckedProgram (p : Program) : Type 0 where
  pub read : IsLinkedProgram p
  pub tagged : IsTagged p.types
  pub bounded : AreBounded p
  pub asked : IsWellTyped p
