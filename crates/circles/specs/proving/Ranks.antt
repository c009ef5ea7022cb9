-- Ranks of types, which don't fall from a type to its parts. By them circles are excluded.
use Rattle.std.specs.Prelude.{◌≡◌, ◌≤◌, ◌<◌, ℕ, List, [], ◌∷◌, Some, map, slice_get, slice_index}
use Rattle.circles.specs.proving.Reach.{IsDefaulted}
use Rattle.circles.specs.Circles.{IsPart}
use Rattle.type_table.specs.Table.{Part, WrittenKind, simple, reference, tagged, members, elements, Type'}

-- the types that a type directly contains or refers to, in order
abbrev pub parts : WrittenKind → List ℕ
parts (simple p) = []
parts (reference j) = j ∷ []
parts (tagged t w j) = j ∷ []
parts (members l m cs) = map (λ (c : Part). c.ty) cs
parts (elements e j) = j ∷ []

-- no part of a type of this kind has a rank below r
abbrev pub AreFrom : ℕ → List ℕ → WrittenKind → Type 0
AreFrom r ranks k = (j : ℕ) → IsPart j k → r ≤ slice_index ranks j

-- no part of any type has a lower rank than the type
abbrev pub Rise : List Type' → List ℕ → Type 0
Rise ts ranks = (i : ℕ) (t : Type') → slice_get ts i ≡ Some t → AreFrom (slice_index ranks i) ranks t.kind

-- the type of each component with a DEFAULT has a rank above r
abbrev pub DefaultsAbove : ℕ → List ℕ → List Part → Type 0
DefaultsAbove r ranks cs = (j : ℕ) → IsDefaulted cs j → r < slice_index ranks j
