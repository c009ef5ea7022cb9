-- The line near a fault, as a message shows it (own rules): octets of the line before the fault and from it on, each
-- part on one line, and below them a caret at the fault.
use Rattle.std.specs.Prelude.{ℕ, ◌+◌, ◌-◌, List, ◌++◌, [], Bool, codes, drop, length, replicate, take, if◌then◌else◌}
use Rattle.std.specs.Int.{is_in_range}
use Rattle.std.specs.List.{after_last, before_first, prefix_len}
use Rattle.std.specs.Str.{chars, is_utf8}
use Rattle.source_text.specs.Shown.{on_one_line}
use Rattle.source_text.specs.Strings.{is_line_end}

-- whether an octet goes on with a character that begins before it, in UTF-8
abbrev pub is_continuation : ℕ → Bool
is_continuation c = is_in_range 128 191 c

-- the octets from the first one that begins a character
abbrev pub from_character : List ℕ → List ℕ
from_character o = drop (prefix_len is_continuation o) o

-- The part before offset n: of the 100 octets before it those after the last line end, from the first character that
-- begins among them.
abbrev pub line_before : List ℕ → ℕ → List ℕ
line_before x n = from_character (after_last is_line_end (drop (n - 100) (take n x)))

-- the first 101 octets, and those that go on with their last character
abbrev pub to_character : List ℕ → List ℕ
to_character o = take (101 + prefix_len is_continuation (drop 101 o)) o

-- the part from offset n on: the octets before the next line end, 101 and those that go on with their last character
abbrev pub line_from : List ℕ → ℕ → List ℕ
line_from x n = to_character (before_first is_line_end (drop n x))

-- octets that are characters in UTF-8, else none
abbrev pub text_or_none : List ℕ → List ℕ
text_or_none o = if is_utf8 o then o else []

-- A line end, the two parts, a line end, as many spaces as characters are shown of the first part, and a caret.
abbrev pub context_of : (front rest : List ℕ) → List ℕ
context_of front rest =
    codes "\n" ++ (front ++ (rest ++ (codes "\n" ++ (replicate (length (chars front)) 32 ++ codes "^"))))

abbrev pub context : List ℕ → ℕ → List ℕ
context x n = context_of (on_one_line (text_or_none (line_before x n))) (on_one_line (text_or_none (line_from x n)))
