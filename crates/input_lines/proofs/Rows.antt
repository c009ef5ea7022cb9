-- Worked rows: the lines of octets.
use Rattle.std.proofs.Common.{◌≡◌, ℕ, List, [], ◌∷◌, Some, codes, refl}
use Rattle.input_lines.specs.Lines.{HasNoLine, TakesLine, lines_of}

two_lines : lines_of (codes "a\nbc\n") ≡ codes "a" ∷ codes "bc" ∷ []
two_lines = refl

without_the_last_end : lines_of (codes "a\nbc") ≡ codes "a" ∷ codes "bc" ∷ []
without_the_last_end = refl

empty_lines : lines_of (codes "\n\na\n") ≡ [] ∷ [] ∷ codes "a" ∷ []
empty_lines = refl

nothing : lines_of [] ≡ []
nothing = refl

one_end : lines_of (codes "\n") ≡ [] ∷ []
one_end = refl

-- a carriage return belongs to its line
carriage_return : lines_of (codes "a\r\nb") ≡ codes "a\r" ∷ codes "b" ∷ []
carriage_return = refl

the_first : TakesLine (Some (codes "a\nb\nc")) (Some (codes "b\nc")) (codes "a")
the_first = refl

the_last : TakesLine (Some (codes "c")) (Some []) (codes "c")
the_last = refl

none : HasNoLine (Some [])
none = refl
