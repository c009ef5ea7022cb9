-- The text of lines that show headers.
use Rattle.std.specs.Prelude.{◌≡◌, ℕ, zero, suc, ◌-◌, nat_le, if◌then◌else◌, List, [], ◌∷◌, ◌++◌, codes, decimal}
use Rattle.std.specs.List.{AllByRecursion}
use Rattle.value_text.specs.Print.{hex_digits}
use Rattle.header_listing.specs.Shown.{Line, header, others}

-- two spaces for each of these levels
abbrev pub indented : ℕ → List ℕ
indented zero = []
indented (suc d) = codes "  " ++ indented d

-- The margin of a line at a depth: two spaces for each level. From 11 levels on it has ten levels, and the number of
-- the others, as in `+1 `.
abbrev pub margin : ℕ → List ℕ
margin d = if nat_le d 10 then indented d else indented 10 ++ (codes "+" ++ (decimal (d - 10) ++ codes " "))

-- The start of a line: the margin and the offset, and then for a header its identifier octets and its length octets in
-- hexadecimal digits.
abbrev pub start_of : Line → List ℕ
start_of (header d n i z x) =
    margin d ++ (decimal n ++ (codes " " ++ (hex_digits i ++ (codes " " ++ hex_digits z))))
start_of (others d n x) = margin d ++ decimal n

-- no line ends in the words
abbrev pub IsOneLine : List ℕ → Type 0
IsOneLine words = AllByRecursion (λ c. c ≡ 10 → ⊥) words

-- the words begin with a space, if there are any
abbrev pub AreApart : List ℕ → Type 0
AreApart [] = Unit {0}
AreApart (c ∷ words) = c ≡ 32

-- the text has each line's start, with some words after it, which a space sets apart, and a line end
abbrev pub AreLines : List Line → List ℕ → Type 0
AreLines [] text = text ≡ []
AreLines (l ∷ ls) text =
    (words rest : List ℕ)
    × (text ≡ start_of l ++ (words ++ (codes "\n" ++ rest)))
    × IsOneLine words
    × AreApart words
    × AreLines ls rest
