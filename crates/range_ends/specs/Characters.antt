-- The characters that texts and ranges of characters allow (X.680, clauses 51.4 and 51.7). Texts are lists of octets,
-- in UTF-8. A character with a code below 128 is one octet, its code, which occurs in no other character.
use Rattle.std.specs.Prelude.{◌≡◌, ◌⊎◌, ℕ, ◌<◌, ◌≤◌, List, [], ◌∷◌, Option, Some, None}
use Rattle.std.specs.List.{AllByRecursion}
use Rattle.std.specs.Str.{IsUtf8, chars}
use Rattle.asn_base.specs.Names.{IsMember}

-- the text, which is UTF-8, is one character, of code c
pub record IsCharacter (text : List ℕ) (c : ℕ) : Type 0 where
  pub utf8 : IsUtf8 text
  pub one : chars text ≡ c ∷ []

-- a text, or the first and the last character of a range, each as a text
abbrev pub CharsTree : Type 0
CharsTree = List ℕ × Option (List ℕ)

-- code c is from the first character to the last one
pub record IsBetween (first last : List ℕ) (c : ℕ) : Type 0 where
  pub from : ℕ
  pub to : ℕ
  pub starts : IsCharacter first from
  pub ends : IsCharacter last to
  pub above : from ≤ c
  pub below : c ≤ to

-- the character of code c, below 128, is in the text or the range
abbrev pub IsAmong : CharsTree → ℕ → Type 0
IsAmong (text, None) c = IsMember c text
IsAmong (first, Some last) c = IsBetween first last c

-- the character of code c is in one of the texts and ranges
abbrev pub IsAmongAny : List CharsTree → ℕ → Type 0
IsAmongAny [] c = ⊥
IsAmongAny (x ∷ xs) c = IsAmong x c ⊎ IsAmongAny xs c

-- both ends of a range are characters, and the first is not above the last
pub record AreEnds (first last : List ℕ) : Type 0 where
  pub from : ℕ
  pub to : ℕ
  pub starts : IsCharacter first from
  pub ends : IsCharacter last to
  pub order : from ≤ to

-- a range of characters has one character at each end, the first not above the last; every text is fit (X.680, clause
-- 51.4)
abbrev pub IsFit : CharsTree → Type 0
IsFit (text, None) = Unit {0}
IsFit (first, Some last) = AreEnds first last

-- each of these texts and ranges is fit
abbrev pub AreFit : List CharsTree → Type 0
AreFit xs = AllByRecursion IsFit xs

-- ---- what is wrong

-- an end of a range is not one character
abbrev pub HasNoCharacter : CharsTree → Type 0
HasNoCharacter (text, None) = ⊥
HasNoCharacter (first, Some last) =
    ((c : ℕ) → IsCharacter first c → ⊥) ⊎ ((c : ℕ) → IsCharacter last c → ⊥)

-- the first character of a range has a greater code than the last
pub record AreReversed (first last : List ℕ) : Type 0 where
  pub from : ℕ
  pub to : ℕ
  pub starts : IsCharacter first from
  pub ends : IsCharacter last to
  pub reversed : to < from

-- the first character of the range has a greater code than the last one; a text is no range
abbrev pub IsTurned : CharsTree → Type 0
IsTurned (text, None) = ⊥
IsTurned (first, Some last) = AreReversed first last
