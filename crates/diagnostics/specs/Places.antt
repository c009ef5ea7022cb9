-- Where something is, in the words of a message: the file, the line and the column in a text, the octet or the bit and
-- the part of a value in octets, the octet and the row in an account.
use Rattle.std.specs.Prelude.{◌≡◌, ℕ, ◌+◌, ◌==◌, List, [], ◌∷◌, ◌++◌, Bool, true, false, Option, None, Some}
use Rattle.std.specs.Prelude.{String, Vec, codes, decimal, if◌then◌else◌, length, slice_get, string_bytes}
use Rattle.std.specs.List.{before_first, position_or_len}
use Rattle.std.specs.declared.alloc.Global.{Global}
use Rattle.text.specs.Text.{IsText, IsWithinLimits, token_octets}
use Rattle.text.specs.declared.token.Token.{Token}
use Rattle.source_text.specs.Lines.{column_at, line_at}
use Rattle.source_text.specs.Modules.{HasNoText, IsFirstText, token_start}
use Rattle.source_text.specs.Shown.{escaped, shown}
use Rattle.account_text.specs.declared.stop.Stop.{Stop}
use Rattle.account_text.specs.declared.stop.Stop.TheVariants as stops

-- ---- texts that others wrote (own rules)

-- w is the name of a file as a message shows it
abbrev pub IsFileShown : (name w : List ℕ) → Type 0
IsFileShown name w = w ≡ escaped name

-- w is a token or a path as a message shows it
abbrev pub IsShown : (x w : List ℕ) → Type 0
IsShown x w = w ≡ shown x

-- ---- texts of modules

-- `: FILE:LINE:COLUMN: ` for an octet of text x, `: FILE: ` for none
abbrev pub located : (file x : List ℕ) → (octet : Option ℕ) → List ℕ
located file x None = codes ": " ++ (file ++ codes ": ")
located file x (Some n) =
    codes ": " ++ (file ++ (codes ":" ++ (decimal (line_at x n)
    ++ (codes ":" ++ (decimal (column_at x n) ++ codes ": ")))))

-- Token p of text x begins at octet n. After the last token, and in a text that has no tokens, that is the text's end.
pub record IsTokenStart (x : List ℕ) (p n : ℕ) : Type 0 where
  pub tokens : (ts : List Token) → IsText x ts → IsWithinLimits x ts → n ≡ token_start x ts p
  pub none : ((ts : List Token) → IsText x ts → IsWithinLimits x ts → ⊥) → n ≡ length x

-- a place, or the first one, 0
abbrev pub or_first : Option ℕ → ℕ
or_first None = 0
or_first (Some p) = p

-- Something is at octet r of text x, if it is at one: at the beginning of a token, or else at an octet.
abbrev pub IsOctet : (x : List ℕ) → (token octet : Option ℕ) → (r : Option ℕ) → Type 0
IsOctet x None octet r = r ≡ octet
IsOctet x (Some p) octet None = ⊥
IsOctet x (Some p) octet (Some n) = IsTokenStart x p n

-- the octets of text k; none if there is no such text
abbrev pub text_at : List (Vec ℕ Global) → ℕ → List ℕ
text_at xs k = elim (slice_get xs k) [ None ↦ [] | Some v ↦ v.items ]

-- w is shown for the file with a name
abbrev pub IsFileOf : Option (String Global) → (w : List ℕ) → Type 0
IsFileOf None w = w ≡ codes "a text"
IsFileOf (Some name) w = IsFileShown (string_bytes name) w

-- the octets of token p; none after the last token
abbrev pub spelled_at : List ℕ → List Token → ℕ → List ℕ
spelled_at x ts p = elim (slice_get ts p) [ None ↦ [] | Some t ↦ token_octets x t ]

-- a construct after the name of its fault: a space and the construct; nothing for no octets
abbrev pub construct_words : List ℕ → List ℕ
construct_words [] = []
construct_words (c ∷ x) = 32 ∷ (c ∷ x)

-- w is shown for the construct that begins with a token of text x, after the name of its fault
abbrev pub IsConstruct : (x : List ℕ) → (token : Option ℕ) → (w : List ℕ) → Type 0
IsConstruct x None w = w ≡ []
IsConstruct x (Some p) w = (ts : List Token) →
    IsText x ts →
    IsWithinLimits x ts →
    w ≡ construct_words (shown (spelled_at x ts p))

-- What a line says of a place in text x of a file: the construct that begins with a token and is left out, if there is
-- one, then `: FILE:LINE:COLUMN: ` or `: FILE: `, and words.
pub record SaysAt (x file : List ℕ) (left_out token octet : Option ℕ) (line : List ℕ) : Type 0 where
  pub construct : List ℕ
  pub left : IsConstruct x left_out construct
  pub place : Option ℕ
  pub at : IsOctet x token octet place
  pub words : List ℕ
  pub is : line ≡ construct ++ (located file x place ++ words)

-- the module in `Module.name`: what is before the first dot; empty if there is no dot
abbrev pub module_in : List ℕ → List ℕ
module_in name =
    if position_or_len (λ c. c == 46) name == length name then [] else before_first (λ c. c == 46) name

-- The number of the text of a module that has a fault at an octet: the first text that begins with the module's name.
-- If `twice`, the fault is that this name was given again. Then it is the second such text, if its first token is at
-- the octet: a second module has the name. Otherwise the name was given again in the first text.
pub data IsModuleText (xs : List (Vec ℕ Global)) (name : List ℕ) (at : ℕ) : (twice : Bool) → Option ℕ → Type 0 where
  no_text : {twice : Bool} → HasNoText xs 0 name → IsModuleText xs name at twice None
  first_text : {k : ℕ} → IsFirstText xs 0 name k → IsModuleText xs name at false (Some k)
  second_text : {k : ℕ} (j : ℕ) →
      IsFirstText xs 0 name j →
      IsFirstText xs (j + 1) name k →
      IsTokenStart (text_at xs k) 0 at →
      IsModuleText xs name at true (Some k)
  again_in_first : {j : ℕ} (k : ℕ) →
      IsFirstText xs 0 name j →
      IsFirstText xs (j + 1) name k →
      (IsTokenStart (text_at xs k) 0 at → ⊥) →
      IsModuleText xs name at true (Some j)
  only_text : {k : ℕ} → IsFirstText xs 0 name k → HasNoText xs (k + 1) name → IsModuleText xs name at true (Some k)

-- ---- octets that can't be read

-- `, in PATH`; nothing for the whole value, whose path is empty
abbrev pub within : (path shown : List ℕ) → List ℕ
within [] shown = []
within (c ∷ path) shown = codes ", in " ++ shown

-- `: at octet N, in PATH: ` and words, or so of a bit
pub record SaysReading (unit : List ℕ) (n : ℕ) (path line : List ℕ) : Type 0 where
  pub part : List ℕ
  pub shown : IsShown path part
  pub words : List ℕ
  pub is : line ≡ codes ": at " ++ (unit ++ (codes " " ++ (decimal n ++ (within path part ++ (codes ": " ++ words)))))

-- ---- accounts

-- where a text stops being an account, and what was found and expected there; octets and rows are counted from 0
abbrev pub stop_words : Stop → List ℕ
stop_words (stops.NotText n) =
    codes "at octet " ++ (decimal n ++ codes ": found octets that are not UTF-8, expected text in JSON")
stop_words stops.NotArray = codes "at octet 0: found no JSON array, expected an array of rows"
stop_words (stops.NotRow row n) =
    codes "at octet " ++ (decimal n ++ (codes ", in row " ++ (decimal row
    ++ codes ": found no row, expected a kind and its numbers in an array")))
stop_words (stops.Behind n) =
    codes "at octet " ++ (decimal n ++ codes ": found more text after the rows, expected its end")
stop_words (stops.NotOne n) =
    codes "found rows that are not those of one account, " ++ (decimal n
    ++ codes " of them, expected after each row as many members as it says, at most 400 deep")

-- `: FILE: `, and where the file's text stops being an account
pub record SaysAccount (name : List ℕ) (stop : Stop) (line : List ℕ) : Type 0 where
  pub file : List ℕ
  pub shown : IsFileShown name file
  pub is : line ≡ codes ": " ++ (file ++ (codes ": " ++ stop_words stop))
