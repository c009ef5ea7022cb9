use Rattle.std.proofs.Common.{◌≡◌, ◌||◌, drop}
use Rattle.std.specs.Char.{is_ascii_hexdigit, is_ascii_whitespace}
use Rattle.std.specs.List.{list_all}
use Rattle.source_text.proofs.characters.are_digits_or_spaces.Given as goal

abbrev pub invariant-loop-place : goal.invariant-loop-place
invariant-loop-place l =
    list_all (λ c. is_ascii_hexdigit c || is_ascii_whitespace c) l.digits
    ≡ list_all (λ c. is_ascii_hexdigit c || is_ascii_whitespace c) (drop l.place l.digits)
