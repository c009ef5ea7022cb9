-- Worked rows of the lines that show headers, and rows that must not hold.
use Rattle.std.proofs.Common.{arith, lit<, ◌≡◌, ℕ, true, false, List, [], ◌∷◌, length, refl, sym, ap}
use Rattle.asn_base.specs.declared.tag.Class.TheVariants.{Universal}
use Rattle.asn_base.specs.declared.tag.Tag.{Tag}
use Rattle.encodings.specs.Header.{identifier, short}
use Rattle.header_listing.specs.Lines.{AreApart}
use Rattle.header_listing.specs.Shown.{IsFirst, header, ShowsLines, ends, primitive, within, after}
use Rattle.header_listing.proofs.Exact.{joined_is}

abbrev integer : Tag
integer = record { class = Universal; number = 2; in_range = lit< tt; not_reserved = λ e. lit< tt }

abbrev sequence : Tag
sequence = record { class = Universal; number = 16; in_range = lit< tt; not_reserved = λ e. lit< tt }

of_integer : identifier Universal 2 false ≡ 2 ∷ []
unfolding identifier
of_integer = refl

of_sequence : identifier Universal 16 true ≡ 48 ∷ []
unfolding identifier
of_sequence = refl

-- 02 01 05, and what follows it
a_number : (rest : List ℕ) → IsFirst integer false (2 ∷ []) (1 ∷ []) (5 ∷ []) rest (2 ∷ 1 ∷ 5 ∷ rest)
a_number rest = record { identified = sym of_integer; sized = short (lit< tt); few = omega arith; whole = refl }

-- 30 03 02 01 05, and what follows it
around : (rest : List ℕ) → IsFirst sequence true (48 ∷ []) (3 ∷ []) (2 ∷ 1 ∷ 5 ∷ []) rest (48 ∷ 3 ∷ 2 ∷ 1 ∷ 5 ∷ rest)
around rest = record { identified = sym of_sequence; sized = short (lit< tt); few = omega arith; whole = refl }

-- a header and one within it
pub both : ShowsLines 0 0 (48 ∷ 3 ∷ 2 ∷ 1 ∷ 5 ∷ []) 5 (header 0 0 (48 ∷ []) (3 ∷ []) [] ∷ header 1 2 (2 ∷ []) (1 ∷ []) (5 ∷ []) ∷ [])
both = within (around []) (primitive (a_number []) ends)

-- lines may end after the first header
pub the_first : ShowsLines 0 0 (48 ∷ 3 ∷ 2 ∷ 1 ∷ 5 ∷ []) 2 (header 0 0 (48 ∷ []) (3 ∷ []) [] ∷ [])
the_first = within (around []) ends

-- an encoding after a constructed one is at the depth of that
pub one_after : ShowsLines 0 0 (48 ∷ 3 ∷ 2 ∷ 1 ∷ 5 ∷ 2 ∷ 1 ∷ 5 ∷ []) 8 (header 0 0 (48 ∷ []) (3 ∷ []) []
    ∷ header 1 2 (2 ∷ []) (1 ∷ []) (5 ∷ []) ∷ header 0 5 (2 ∷ []) (1 ∷ []) (5 ∷ []) ∷ [])
one_after = after (around (2 ∷ 1 ∷ 5 ∷ [])) (primitive (a_number []) ends) (primitive (a_number []) ends)

-- the first header alone does not show all octets
pub not_lost : ShowsLines 0 0 (48 ∷ 3 ∷ 2 ∷ 1 ∷ 5 ∷ []) 5 (header 0 0 (48 ∷ []) (3 ∷ []) [] ∷ []) → ⊥
not_lost s = let e = ap length (joined_is s) in absurd (omega arith)

-- and both headers show more than the first two
pub not_added : ShowsLines 0 0 (48 ∷ 3 ∷ 2 ∷ 1 ∷ 5 ∷ []) 2 (header 0 0 (48 ∷ []) (3 ∷ []) [] ∷ header 1 2 (2 ∷ []) (1 ∷ []) (5 ∷ []) ∷ []) → ⊥
not_added s = let e = ap length (joined_is s) in absurd (omega arith)

-- words don't begin right after the length octets
pub not_glued : AreApart (48 ∷ 53 ∷ []) → ⊥
not_glued e = absurd cc

-- a space sets them apart
pub apart : AreApart (32 ∷ 48 ∷ 53 ∷ [])
apart = refl
