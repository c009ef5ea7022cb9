-- The lines of octets, and what it is to take the first one.
use Rattle.std.specs.Prelude.{◌≡◌, ⊤, ℕ, List, [], ◌∷◌, ◌==◌, if◌then◌else◌, Option, Some, None}

-- an octet in front of the first of some lines; it is the only octet of a line if there are none
abbrev pub before : ℕ → List (List ℕ) → List (List ℕ)
before x [] = (x ∷ []) ∷ []
before x (l ∷ ls) = (x ∷ l) ∷ ls

-- The lines of octets, without their ends. A line ends with the octet 10 (LF), or where the octets end; octets that end
-- with a line end have no further line after it.
abbrev pub lines_of : List ℕ → List (List ℕ)
lines_of [] = []
lines_of (x ∷ xs) = if x == 10 then [] ∷ lines_of xs else before x (lines_of xs)

-- known octets lost exactly their first line
abbrev pub TakesLine : (old new : Option (List ℕ)) → (line : List ℕ) → Type 0
TakesLine None new line = ⊤
TakesLine (Some xs) None line = ⊥
TakesLine (Some xs) (Some ys) line = lines_of xs ≡ line ∷ lines_of ys

-- known octets have no line
abbrev pub HasNoLine : Option (List ℕ) → Type 0
HasNoLine None = ⊤
HasNoLine (Some xs) = lines_of xs ≡ []
