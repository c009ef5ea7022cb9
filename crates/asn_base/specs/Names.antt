-- Identifiers of components, alternatives, items and bits, and lists of distinct members (X.680, clause 12.3).
use Rattle.std.specs.Prelude.{ℕ, Bool, true, false, ◌&&◌, ◌==◌, if◌then◌else◌, List, [], ◌∷◌, IsTrue}
use Rattle.std.specs.Char.{is_ascii_lowercase, is_ascii_alphanumeric}
use Rattle.std.specs.List.{AllByRecursion}

-- whether octets can follow the first one of an identifier (X.680, clause 12.3): letters, digits and hyphens, of which
-- none is last or comes after another. The flag says that a hyphen came directly before.
abbrev pub goes_on : (after_hyphen : Bool) → List ℕ → Bool
goes_on true [] = false
goes_on false [] = true
goes_on true (x ∷ xs) = is_ascii_alphanumeric x && goes_on false xs
goes_on false (x ∷ xs) = if x == 45 then goes_on true xs else (is_ascii_alphanumeric x && goes_on false xs)

-- whether the octets are an identifier (X.680, clause 12.3): a small letter, then letters, digits and single hyphens,
-- none of which is last
abbrev pub is_identifier : List ℕ → Bool
is_identifier [] = false
is_identifier (x ∷ xs) = is_ascii_lowercase x && goes_on false xs

-- the octets are an identifier (X.680, clause 12.3)
abbrev pub IsIdentifier : List ℕ → Type 0
IsIdentifier x = IsTrue (is_identifier x)

-- x is a member of the list
pub data IsMember {A : Type 0} (x : A) : List A → Type 0 where
  is_first : {xs : List A} → IsMember x (x ∷ xs)
  is_later : {y : A} {xs : List A} → IsMember x xs → IsMember x (y ∷ xs)

-- no member of the list is equal to a later one
abbrev pub AreDistinct : {A : Type 0} → List A → Type 0
AreDistinct [] = Unit {0}
AreDistinct (x ∷ xs) = (IsMember x xs → ⊥) × AreDistinct xs

-- each of the names is an identifier, and no name is there twice (X.680, clause 12.3)
pub record AreNames (names : List (List ℕ)) : Type 0 where
  pub identifiers : AllByRecursion IsIdentifier names
  pub distinct : AreDistinct names
