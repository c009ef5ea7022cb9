-- Reading types from left to right.
use Rattle.std.specs.Prelude.{◌⊎◌, ℕ, zero, suc, Bool, true, false, List, [], ◌∷◌, Option, Ok}
use Rattle.text.specs.declared.token.Mark.TheVariants.{OpenBrace, OpenBracket}
use Rattle.text.specs.declared.reserved.Word.TheVariants as words
use Rattle.grammar.specs.Lexemes.{is_ellipsis}
use Rattle.grammar.specs.Lexeme.{Lexeme, TypeRef, Word, Mark}
use Rattle.grammar.specs.Lists.{is_ident}
use Rattle.grammar.specs.Parts.{perhaps}
use Rattle.grammar.specs.Reading.{Reader, ◌>>=◌, stop, opened, named_at, braces_at, extensible_at, rootless_at, addition_at}
use Rattle.grammar.specs.Rules.{either}
use Rattle.trees.specs.Values.{Tree}
use Rattle.notation.specs.Reading.{value_at}
use Rattle.trees.specs.declared.types.ListKind.TheVariants as lists
use Rattle.trees.specs.Types.{mandatory, TypeTree, a_type, FormTree, a_simple, a_tagged}
use Rattle.type_parts.specs.PlainReading.{ref_at, keyword_at, presence_at, tag_at, simple_at, constraints_at, list_size_at}
use Rattle.type_syntax.specs.TypeGrammar.{ComponentTree, Listing, of_listing, list_kind, listing_of, list_type, constrained}

-- ---- members and alternatives; read reads a type inside, and value a value

unfoldable pub component_at : Reader TypeTree → Reader Tree → Reader ComponentTree
component_at read value ts = read ts >>= λ t. presence_at value t.1 >>= λ p. Ok ((t.0, p.0), p.1)

unfoldable pub alternative_type_at : Reader TypeTree → Reader ComponentTree
alternative_type_at read ts = read ts >>= λ t. Ok ((t.0, mandatory), t.1)

-- a list of members begins with one of these lexemes
abbrev pub is_listing : Lexeme → Bool
is_listing = either is_ellipsis is_ident

-- fits: the test that numbers without a minus must pass
module _ (fits : ℕ → Bool) where
  -- what is in the braces of a SEQUENCE or SET; part reads a member
  unfoldable pub listing_at : {A : Type 0} → Reader A → Reader (Option (List A × Option (List (A ⊎ List A))))
  listing_at part ts = perhaps is_listing (rootless_at part (addition_at fits part)) ts

  -- n: how many more braces, tags and lists may be open
  unfoldable pub body_at : ℕ → Reader TypeTree → Reader Tree → Reader Listing
  body_at n read value ts =
      braces_at n (listing_at (named_at (component_at read value))) ts >>= λ l. Ok (listing_of l.0, l.1)

  -- what is in the braces of a CHOICE
  unfoldable pub alternatives_at : Reader TypeTree → Reader Listing
  alternatives_at read ts = extensible_at (named_at (alternative_type_at read))
      (addition_at fits (named_at (alternative_type_at read))) ts

  -- what comes after CHOICE
  unfoldable pub choice_at : ℕ → Reader TypeTree → Reader FormTree
  choice_at n read ts = braces_at n (alternatives_at read) ts >>= λ l. Ok (of_listing lists.Choice l.0, l.1)

  unfoldable pub inside_tag_at : Reader TypeTree → Reader TypeTree
  inside_tag_at read ts =
      tag_at fits ts >>= λ g. keyword_at g.1 >>= λ k. read k.1 >>= λ t. Ok (a_type (a_tagged g.0 k.0 t.0) [], t.1)

  unfoldable pub tagged_at : ℕ → Reader TypeTree → Reader TypeTree
  tagged_at n read (Mark OpenBracket ∷ rest) = opened n (Mark OpenBracket ∷ rest) (inside_tag_at read rest)
  tagged_at n read ts = stop ts

  -- ---- types

  unfoldable pub plain_form_at : ℕ → Reader FormTree
  plain_form_at n ts = simple_at fits n ts >>= λ s. Ok (a_simple s.0, s.1)

  -- a type that is no SEQUENCE and no SET
  unfoldable pub one_type_at : ℕ → Reader TypeTree → Reader FormTree
  one_type_at n read (TypeRef x ∷ rest) = ref_at x rest
  one_type_at n read (Word words.Choice ∷ rest) = choice_at n read rest
  one_type_at n read ts = plain_form_at n ts

  -- a form and the constraints after it
  unfoldable pub with_constraints_at : FormTree → Reader TypeTree
  with_constraints_at f ts = constraints_at fits ts >>= λ cs. Ok (constrained (f, cs.0), cs.1)

  unfoldable pub plain_at : ℕ → Reader TypeTree → Reader TypeTree
  plain_at n read ts = one_type_at n read ts >>= λ f. with_constraints_at f.0 f.1

  unfoldable pub element_type_at : ℕ → Reader TypeTree → Reader TypeTree
  element_type_at n read (Word words.Of ∷ rest) = opened n (Word words.Of ∷ rest) (read rest)
  element_type_at n read ts = stop ts

  -- what comes after SEQUENCE or SET in a list type
  unfoldable pub list_at : ℕ → Reader TypeTree → Bool → Reader TypeTree
  list_at n read set ts = list_size_at fits ts >>= λ s. element_type_at n read s.1 >>=
      λ t. Ok (list_type set s.0 t.0, t.1)

  -- members and the constraints after them
  unfoldable pub structure_at : ℕ → Reader TypeTree → Reader Tree → Bool → Reader TypeTree
  structure_at n read value set ts =
      body_at n read value ts >>= λ l. with_constraints_at (of_listing (list_kind set) l.0) l.1

  -- what comes after SET if set is true, else after SEQUENCE
  unfoldable pub after_keyword_at : ℕ → Reader TypeTree → Reader Tree → Bool → Reader TypeTree
  after_keyword_at n read value set (Mark OpenBrace ∷ rest) = structure_at n read value set (Mark OpenBrace ∷ rest)
  after_keyword_at n read value set ts = list_at n read set ts

  unfoldable pub type_step : ℕ → Reader TypeTree → Reader Tree → Reader TypeTree
  type_step n read value (Mark OpenBracket ∷ rest) = tagged_at n read (Mark OpenBracket ∷ rest)
  type_step n read value (Word words.Sequence ∷ rest) = after_keyword_at n read value false rest
  type_step n read value (Word words.Set ∷ rest) = after_keyword_at n read value true rest
  type_step n read value ts = plain_at n read ts

  unfoldable pub type_at : ℕ → Reader TypeTree
  type_at zero = type_step zero stop stop
  type_at (suc n) = type_step (suc n) (type_at n) (value_at fits n)
