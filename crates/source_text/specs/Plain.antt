-- Texts that a message shows as they are: printable ASCII characters and spaces (own rule).
use Rattle.std.specs.Prelude.{◌≡◌, ℕ, List, Bool, false, ◌||◌, nat_lt}
use Rattle.std.specs.List.{list_any}

-- whether an octet is no printable ASCII character and no space
abbrev pub is_other : ℕ → Bool
is_other c = nat_lt c 32 || nat_lt 126 c

-- the octets are all printable ASCII characters and spaces
abbrev pub IsPlain : List ℕ → Type 0
IsPlain x = list_any is_other x ≡ false
