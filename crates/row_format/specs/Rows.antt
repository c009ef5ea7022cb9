-- What a row asks, how its answer is printed, and why a file has no rows.
use Rattle.std.specs.Prelude.{◌≡◌, ◌==◌, ◌++◌, ℕ, List, [], ◌∷◌, flat_map, length, codes, IsUtf8, if◌then◌else◌}
use Rattle.std.specs.List.{join_by}
use Rattle.std.specs.Str.Lines.{lines}
use Rattle.row_format.specs.declared.fault.RowFault.{RowFault}
use Rattle.row_format.specs.declared.fault.RowFault.TheVariants.{NotUtf8}

-- the first of some words, or the empty word if there is none
abbrev pub first_word : List (List ℕ) → List ℕ
first_word [] = []
first_word (w ∷ ws) = w

-- the title of a row with these words: the words in order, with a blank between each two
abbrev pub title_of : List (List ℕ) → List ℕ
title_of = join_by (λ w. w) (codes " ")

-- what is before a line of an answer in print: a line end and, unless the line is empty, two blanks
abbrev pub margin : List ℕ → List ℕ
margin l = if length l == 0 then codes "\n" else codes "\n  "

-- an answer in print: its lines in order, each after its margin
abbrev pub indented : List ℕ → List ℕ
indented answer = flat_map (λ l. margin l ++ l) (lines answer)

-- The text is the entry of a row with these words: the title of the row, and below it an answer. Which answer that is
-- the definition leaves open.
pub record IsEntry (words : List (List ℕ)) (text : List ℕ) : Type 0 where
  pub answer : List ℕ
  pub whole : text ≡ title_of words ++ indented answer

-- the fault can be one of a text
abbrev pub IsTextFault : RowFault → Type 0
IsTextFault NotUtf8 = ⊥
IsTextFault e = Unit {0}

-- A file has this fault. `NotUtf8`: its octets are not UTF-8. Any other fault: they are, and something else is wrong.
abbrev pub IsFileFault : List ℕ → RowFault → Type 0
IsFileFault x NotUtf8 = IsUtf8 x → ⊥
IsFileFault x e = IsUtf8 x
