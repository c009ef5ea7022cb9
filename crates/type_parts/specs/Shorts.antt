-- The readers of names with numbers leave no more lexemes than they get. The file also has the type that a name in
-- memory stands for.
use Rattle.std.proofs.Common.{ℕ, ◌≤◌, Bool, List, [], ◌∷◌, length, Ok, arith}
use Rattle.text.specs.declared.token.Mark.TheVariants.{Minus}
use Rattle.grammar.specs.Lexeme.{Lexeme, Number, Mark}
use Rattle.grammar.specs.Rules.{number_at}
use Rattle.grammar.specs.Short.{Short, less, fitting_leaves}
use Rattle.type_parts.specs.PlainGrammar.{positive_number}
use Rattle.grammar.specs.Reading.{is_open, parens_at}
use Rattle.grammar.specs.Short.{named_short, optional_short, parens_short}
use Rattle.trees.specs.declared.location.Reference.{Reference}
use Rattle.trees.specs.Names.{reference_module, reference_name}
use Rattle.trees.specs.Types.{FormTree, a_reference}
use Rattle.type_parts.specs.PlainReading.{negative_at, signed_at, named_number_at, named_bit_at, item_at}

-- the type that is given by this name
abbrev pub reference_of : Reference → FormTree
reference_of r = a_reference (reference_module r) (reference_name r)

one_less : (t : Lexeme) (ts : List Lexeme) → length ts ≤ length (t ∷ ts)
one_less t ts = omega arith

pub number_short : (fits : ℕ → Bool) → Short (number_at fits)
unfolding number_at
number_short fits [] = tt
number_short fits (Number n ∷ ts) = fitting_leaves (length (Number n ∷ ts)) (fits n) (Number n ∷ ts) (Ok (n, ts))
    (one_less (Number n) ts)
number_short fits (t ∷ ts) = tt

negative_short : (fits : ℕ → Bool) → Short (negative_at fits)
unfolding negative_at
negative_short fits [] = tt
negative_short fits (Number n ∷ ts) = one_less (Number n) ts
negative_short fits (t ∷ ts) = tt

pub signed_short : (fits : ℕ → Bool) → Short (signed_at fits)
unfolding signed_at
signed_short fits [] = tt
signed_short fits (Number n ∷ ts) = fitting_leaves (length (Number n ∷ ts)) (fits n) (Number n ∷ ts)
    (Ok (positive_number n, ts)) (one_less (Number n) ts)
signed_short fits (Mark Minus ∷ ts) = less (length ts) (length (Mark Minus ∷ ts)) (negative_at fits ts)
    (one_less (Mark Minus) ts) (negative_short fits ts)
signed_short fits (t ∷ ts) = tt

pub named_number_short : (fits : ℕ → Bool) → Short (named_number_at fits)
named_number_short fits = named_short (parens_at (signed_at fits)) (parens_short (signed_at fits) (signed_short fits))

pub named_bit_short : (fits : ℕ → Bool) → Short (named_bit_at fits)
named_bit_short fits = named_short (parens_at (number_at fits)) (parens_short (number_at fits) (number_short fits))

pub item_short : (fits : ℕ → Bool) → Short (item_at fits)
item_short fits =
    named_short _ (optional_short (parens_at (signed_at fits)) (parens_short (signed_at fits) (signed_short fits))
    is_open)
