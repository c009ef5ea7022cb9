-- The words that say what may have been meant by a name (own rule).
use Rattle.std.specs.Prelude.{◌≡◌, ◌⊎◌, ℕ, List, [], ◌++◌, true, codes}
use Rattle.std.specs.Str.{str_eq_ignore_ascii_case}
use Rattle.source_text.specs.Shown.{shown}
use Rattle.suggestions.specs.Near.{are_near}

-- the question with a name in it
abbrev pub question : List ℕ → List ℕ
question x = codes "; did you mean " ++ (x ++ codes "?")

-- x is name y as a message shows it
abbrev pub IsShown : (x y : List ℕ) → Type 0
IsShown x y = x ≡ shown y

-- a name is a word but for the case of letters, or it is near to the word
abbrev pub IsAlike : (name one : List ℕ) → Type 0
IsAlike name one = (str_eq_ignore_ascii_case name one ≡ true) ⊎ (are_near name one ≡ true)

-- what is two words in the notation, and the same written as one (X.680, clauses 22 to 33)
abbrev pub IsJoined : (one words : List ℕ) → Type 0
IsJoined one words = ((one ≡ codes "OCTETSTRING") × (words ≡ codes "OCTET STRING"))
    ⊎ (((one ≡ codes "BITSTRING") × (words ≡ codes "BIT STRING"))
    ⊎ (((one ≡ codes "OBJECTIDENTIFIER") × (words ≡ codes "OBJECT IDENTIFIER"))
    ⊎ (((one ≡ codes "RELATIVEOID") × (words ≡ codes "RELATIVE-OID"))
    ⊎ (((one ≡ codes "SEQUENCEOF") × (words ≡ codes "SEQUENCE OF"))
    ⊎ ((one ≡ codes "SETOF") × (words ≡ codes "SET OF"))))))

-- A name may have been meant for another one: it is near to that, or that is two words, and it is alike to them written
-- as one.
abbrev pub IsMeant : (name meant : List ℕ) → Type 0
IsMeant name meant =
    (are_near name meant ≡ true) ⊎ ((one : List ℕ) × IsJoined one meant × IsAlike name one)

-- the words are a question with one name, which may have been meant
pub record IsQuestion (name words : List ℕ) : Type 0 where
  pub meant : List ℕ
  pub is_meant : IsMeant name meant
  pub spelled : List ℕ
  pub shown : IsShown spelled meant
  pub is : words ≡ question spelled

-- the words are a question with one name, or there are none
abbrev pub IsHint : (name words : List ℕ) → Type 0
IsHint name words = (words ≡ []) ⊎ IsQuestion name words
