-- What the generic parts read, and how memory holds it.
use Rattle.std.specs.Prelude.{◌⊎◌, List, map, option_map}
use Rattle.std.proofs.Common.{inl, inr}
use Rattle.grammar.specs.Reading.{Extensible as Extensible'}
use Rattle.parser_combinators.specs.declared.lists.Extensible.{Extensible}
use Rattle.parser_combinators.specs.declared.lists.Addition.{Addition}
use Rattle.parser_combinators.specs.declared.lists.Addition.TheVariants as additions

-- lists in memory, with their parts seen by f and g
abbrev pub extensible_of : {X Y A B : Type 0} → (X → A) → (Y → B) → Extensible X Y → Extensible' A B
extensible_of f g e = (map f e.root.items, option_map (λ v. map g v.items) e.additions)

abbrev pub addition_of : {X A : Type 0} → (X → A) → Addition X → A ⊎ List A
addition_of f (additions.Alone x) = inl (f x)
addition_of f (additions.Bracket v) = inr (map f v.items)
