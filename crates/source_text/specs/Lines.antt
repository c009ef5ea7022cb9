-- Lines and columns of a text, both counted from 1; a column counts characters.
use Rattle.std.specs.Prelude.{ℕ, zero, suc, ◌+◌, ◌-◌, ◌^◌, List, ◌++◌, Bool, ◌==◌, ◌&&◌, ◌||◌, not, nat_lt, get_or}
use Rattle.std.specs.Prelude.{if◌then◌else◌, codes, decimal, length, min}

-- whether a line ends with octet i: LF, or CR with no LF after it
abbrev pub ends_line : List ℕ → ℕ → Bool
ends_line x i = (get_or x i 0 == 10) || ((get_or x i 0 == 13) && not (get_or x (i + 1) 0 == 10))

-- whether octet i begins a character, in UTF-8
abbrev pub begins_character : List ℕ → ℕ → Bool
begins_character x i = nat_lt (get_or x i 0) 128 || not (nat_lt (get_or x i 0) 192)

-- the line of octet n: one more than the lines that end before it
unfoldable pub line_of : List ℕ → ℕ → ℕ
line_of x zero = 1
line_of x (suc n) = if ends_line x n then line_of x n + 1 else line_of x n

-- the column of octet n: one more than the characters that begin before it on its line
unfoldable pub column_of : List ℕ → ℕ → ℕ
column_of x zero = 1
column_of x (suc n) =
    if ends_line x n then 1 else (if begins_character x n then column_of x n + 1 else column_of x n)

-- the line and the column of octet n; those of the end of the text if the octet is after it
abbrev pub line_at : List ℕ → ℕ → ℕ
line_at x n = min (line_of x (min n (length x))) (2 ^ 64 - 1)

abbrev pub column_at : List ℕ → ℕ → ℕ
column_at x n = min (column_of x (min n (length x))) (2 ^ 64 - 1)

-- the two in a message, as `:3:14`
abbrev pub place_words : List ℕ → ℕ → List ℕ
place_words x n = codes ":" ++ (decimal (line_at x n) ++ (codes ":" ++ decimal (column_at x n)))
