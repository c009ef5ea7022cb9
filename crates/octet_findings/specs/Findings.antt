-- What was found in octets that are refused, and what was expected in its place (X.690, 8; the words are own rules).
use Rattle.std.specs.Prelude.{◌≡◌, ℕ, ◌-◌, ◌==◌, if◌then◌else◌, List, ◌++◌, Option, None, Some, codes, decimal}
use Rattle.std.specs.Prelude.{length, string_bytes}
use Rattle.messages.specs.declared.fault.Finding.{Finding}

-- how many of a thing there are: `no octets`, `1 octet`, `5 octets`
abbrev pub counted : ℕ → (one : List ℕ) → List ℕ
counted n one =
    if n == 0
    then codes "no " ++ (one ++ codes "s")
    else (if n == 1 then codes "1 " ++ one else decimal n ++ (codes " " ++ (one ++ codes "s")))

-- there is a finding, with these words for what was found and what was expected
abbrev pub Finds : (found expected : List ℕ) → Option Finding → Type 0
Finds found expected None = ⊥
Finds found expected (Some f) = (string_bytes f.found ≡ found) × (string_bytes f.expected ≡ expected)

-- the octets from an offset on are more than the whole value: the finding says how many they are
abbrev pub FindsRest : List ℕ → (at : ℕ) → Option Finding → Type 0
FindsRest octets at finding = Finds
    (counted (length octets - at) (codes "octet") ++ codes " after the whole value")
    (codes "the end of the message")
    finding
