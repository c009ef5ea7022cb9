-- Reading the head of a module from left to right.
use Rattle.std.specs.Prelude.{List, [], ◌∷◌, Option, Some, None, Ok}
use Rattle.text.specs.declared.token.Mark.TheVariants.{Semicolon}
use Rattle.text.specs.declared.reserved.Word.TheVariants.{Explicit, Implicit, Automatic, Exports, All}
use Rattle.grammar.specs.Lexeme.{TypeRef, Ident, Word, Mark}
use Rattle.grammar.specs.Reading.{Reader, ◌>>=◌, stop, listed_at}
use Rattle.trees.specs.Values.{Name}
use Rattle.trees.specs.declared.module.TagDefault.{TagDefault}
use Rattle.trees.specs.declared.module.TagDefault.TheVariants as defaults
use Rattle.grammar.specs.Single.{tags_at}

unfoldable pub tag_word_at : Reader TagDefault
tag_word_at (Word Explicit ∷ rest) = Ok (defaults.Explicit, rest)
tag_word_at (Word Implicit ∷ rest) = Ok (defaults.Implicit, rest)
tag_word_at (Word Automatic ∷ rest) = Ok (defaults.Automatic, rest)
tag_word_at ts = stop ts

unfoldable pub default_words_at : Reader TagDefault
default_words_at ts = do
  d ← tag_word_at ts
  t ← tags_at d.1
  Ok (d.0, t.1)

unfoldable pub semicolon_at : Reader (Unit {0})
semicolon_at (Mark Semicolon ∷ rest) = Ok (tt, rest)
semicolon_at ts = stop ts

unfoldable pub symbol_at : Reader Name
symbol_at (TypeRef x ∷ rest) = Ok (x, rest)
symbol_at (Ident x ∷ rest) = Ok (x, rest)
symbol_at ts = stop ts

-- what comes after EXPORTS if names are listed
unfoldable pub some_exports_at : Reader (Option (List Name))
some_exports_at ts = do
  xs ← listed_at symbol_at ts
  s ← semicolon_at xs.1
  Ok (Some xs.0, s.1)

unfoldable pub all_exports_at : Reader (Option (List Name))
all_exports_at ts = semicolon_at ts >>= λ s. Ok (None, s.1)

unfoldable pub no_exports_at : Reader (Option (List Name))
no_exports_at ts = semicolon_at ts >>= λ s. Ok (Some [], s.1)

-- what comes after EXPORTS
unfoldable pub exported_at : Reader (Option (List Name))
exported_at (Word All ∷ rest) = all_exports_at rest
exported_at (TypeRef x ∷ rest) = some_exports_at (TypeRef x ∷ rest)
exported_at (Ident x ∷ rest) = some_exports_at (Ident x ∷ rest)
exported_at ts = no_exports_at ts

unfoldable pub exports_at : Reader (Option (List Name))
exports_at (Word Exports ∷ rest) = exported_at rest
exports_at ts = stop ts
