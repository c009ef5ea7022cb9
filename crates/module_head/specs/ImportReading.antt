-- Reading imports from left to right.
use Rattle.std.specs.Prelude.{ℕ, Bool, true, false, List, ◌∷◌, length, Ok}
use Rattle.text.specs.declared.token.Mark.TheVariants.{OpenBrace, OpenParenthesis}
use Rattle.text.specs.declared.reserved.Word.TheVariants.{Imports, From}
use Rattle.grammar.specs.Lexeme.{Lexeme, TypeRef, Ident, Number, Word, Mark}
use Rattle.grammar.specs.Reading.{Reader, ◌>>=◌, stop, fitting, closed_at, listed_at, many_at}
use Rattle.trees.specs.Values.{Name}
use Rattle.grammar.specs.Rules.{number_at}
use Rattle.grammar.specs.Reading.{parens_at}
use Rattle.trees.specs.Modules.{ImportTree}
use Rattle.module_head.specs.HeadingReading.{semicolon_at, symbol_at}

abbrev pub begins_arc : Lexeme → Bool
begins_arc (Number n) = true
begins_arc (Ident x) = true
begins_arc t = false

abbrev pub begins_symbol : Lexeme → Bool
begins_symbol (TypeRef x) = true
begins_symbol (Ident x) = true
begins_symbol t = false

-- fits: the test that numbers without a minus must pass
module _ (fits : ℕ → Bool) where
  unfoldable pub arc_number_at : Reader (Unit {0})
  arc_number_at ts = parens_at (number_at fits) ts >>= λ n. Ok (tt, n.1)

  -- what comes after an identifier
  unfoldable pub after_arc_at : Reader (Unit {0})
  after_arc_at (Mark OpenParenthesis ∷ rest) = arc_number_at (Mark OpenParenthesis ∷ rest)
  after_arc_at ts = Ok (tt, ts)

  unfoldable pub arc_at : Reader (Unit {0})
  arc_at (Number n ∷ rest) = fitting (fits n) (Number n ∷ rest) (Ok (tt, rest))
  arc_at (Ident x ∷ rest) = after_arc_at rest
  arc_at ts = stop ts

  unfoldable pub more_arcs_at : Reader (Unit {0})
  more_arcs_at ts = many_at begins_arc arc_at (length ts) ts >>= λ xs. Ok (tt, xs.1)

  unfoldable pub arcs_at : Reader (Unit {0})
  arcs_at ts = arc_at ts >>= λ a. more_arcs_at a.1

  unfoldable pub oid_at : Reader (Unit {0})
  oid_at (Mark OpenBrace ∷ rest) = arcs_at rest >>= λ a. closed_at a.1
  oid_at ts = stop ts

  -- what comes after a module's name
  unfoldable pub after_module_at : Name → Reader Name
  after_module_at m (Mark OpenBrace ∷ rest) = oid_at (Mark OpenBrace ∷ rest) >>= λ o. Ok (m, o.1)
  after_module_at m ts = Ok (m, ts)

  unfoldable pub module_ref_at : Reader Name
  module_ref_at (TypeRef m ∷ rest) = after_module_at m rest
  module_ref_at ts = stop ts

  unfoldable pub from_module_at : Reader Name
  from_module_at (Word From ∷ rest) = module_ref_at rest
  from_module_at ts = stop ts

  unfoldable pub import_from_at : Reader ImportTree
  import_from_at ts = do
    xs ← listed_at symbol_at ts
    m ← from_module_at xs.1
    Ok (record { names = xs.0; from = m.0 }, m.1)

  abbrev pub imports_from_at : Reader (List ImportTree)
  imports_from_at ts = many_at begins_symbol import_from_at (length ts) ts

  -- what comes after IMPORTS
  unfoldable pub imported_at : Reader (List ImportTree)
  imported_at ts = imports_from_at ts >>= λ is. semicolon_at is.1 >>= λ s. Ok (is.0, s.1)

  unfoldable pub imports_at : Reader (List ImportTree)
  imports_at (Word Imports ∷ rest) = imported_at rest
  imports_at ts = stop ts
