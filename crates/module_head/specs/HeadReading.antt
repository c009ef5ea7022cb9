-- Reading the head of a module from left to right.
use Rattle.std.specs.Prelude.{ℕ, Bool, List, [], ◌∷◌, map, Option, None, option_map, Ok}
use Rattle.text.specs.declared.reserved.Word.TheVariants.{Explicit, Implicit, Automatic, Exports, Imports}
use Rattle.grammar.specs.Lexeme.{Word}
use Rattle.grammar.specs.Reading.{Reader, ◌>>=◌}
use Rattle.trees.specs.Values.{Name, name_at}
use Rattle.trees.specs.declared.module.TagDefault.{TagDefault}
use Rattle.trees.specs.declared.module.TagDefault.TheVariants as defaults
use Rattle.trees.specs.Modules.{ImportTree, import_of}
use Rattle.module_head.specs.declared.head.ModuleHead.{ModuleHead}
use Rattle.module_head.specs.Heading.{HeadTree, head_of}
use Rattle.grammar.specs.Single.{definitions_at, assign_at, begin_at, then_at}
use Rattle.module_head.specs.HeadingReading.{default_words_at, exports_at}
use Rattle.module_head.specs.ImportReading.{module_ref_at, imports_at}

unfoldable pub tag_default_at : Reader TagDefault
tag_default_at (Word Explicit ∷ rest) = default_words_at (Word Explicit ∷ rest)
tag_default_at (Word Implicit ∷ rest) = default_words_at (Word Implicit ∷ rest)
tag_default_at (Word Automatic ∷ rest) = default_words_at (Word Automatic ∷ rest)
tag_default_at ts = Ok (defaults.Explicit, ts)

-- what comes after DEFINITIONS
unfoldable pub begun_at : Reader TagDefault
begun_at ts = tag_default_at ts >>= λ d. then_at assign_at begin_at d.1 >>= λ b. Ok (d.0, b.1)

-- what comes after BEGIN
unfoldable pub export_list_at : Reader (Option (List Name))
export_list_at (Word Exports ∷ rest) = exports_at (Word Exports ∷ rest)
export_list_at ts = Ok (None, ts)

-- fits: the test that numbers without a minus must pass
module _ (fits : ℕ → Bool) where
  -- what comes after the exports
  unfoldable pub import_list_at : Reader (List ImportTree)
  import_list_at (Word Imports ∷ rest) = imports_at fits (Word Imports ∷ rest)
  import_list_at ts = Ok ([], ts)

  unfoldable pub heading_at : Reader (Name × TagDefault)
  heading_at ts = module_ref_at fits ts >>= λ x. then_at definitions_at begun_at x.1 >>= λ d. Ok ((x.0, d.0), d.1)

  -- a module's head up to the imports
  unfoldable pub exporting_at : Reader ((Name × TagDefault) × Option (List Name))
  exporting_at ts = heading_at ts >>= λ h. export_list_at h.1 >>= λ e. Ok ((h.0, e.0), e.1)

  unfoldable pub head_at : Reader HeadTree
  head_at ts = exporting_at ts >>= λ h. import_list_at h.1 >>= λ i. Ok (head_of (h.0, i.0), i.1)

-- the tree that a head in memory holds
abbrev pub head_tree_of : ModuleHead → HeadTree
head_tree_of h = record {
  name = name_at h.name;
  tag_default = h.tag_default;
  exports = option_map (λ xs. map name_at xs.items) h.exports;
  imports = map import_of h.imports.items;
}
