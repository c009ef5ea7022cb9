-- Texts by the names of their modules, and the octets of tokens (X.680, 13.1).
use Rattle.std.specs.Prelude.{◌≡◌, ℕ, ◌≤◌, ◌<◌, List, Some, None, Vec, length, slice_get, slice_range}
use Rattle.std.specs.declared.alloc.Global.{Global}
use Rattle.text.specs.Text.{IsText, IsWithinLimits}
use Rattle.text.specs.declared.token.Token.{Token}

-- the offset of the first octet of token i; after the last token, the length of the text
abbrev pub token_start : List ℕ → List Token → ℕ → ℕ
token_start x ts i = elim (slice_get ts i) [ None ↦ length x | Some t ↦ t.span.start ]

-- the token is spelled so
abbrev pub IsSpelled : List ℕ → List ℕ → Token → Type 0
IsSpelled x name t = slice_range x t.span.start t.span.end ≡ name

-- the first token is spelled so
pub record IsFirstSpelled (x : List ℕ) (ts : List Token) (name : List ℕ) : Type 0 where
  pub token : Token
  pub first : slice_get ts 0 ≡ Some token
  pub spelled : IsSpelled x name token

-- The text is that of the module with this name: its first token is the name.
pub record IsTextOfModule (name x : List ℕ) : Type 0 where
  pub tokens : List Token
  pub is : IsText x tokens
  pub within : IsWithinLimits x tokens
  pub named : IsFirstSpelled x tokens name

-- no text from number n on is that of the module with this name
abbrev pub HasNoText : List (Vec ℕ Global) → (n : ℕ) → List ℕ → Type 0
HasNoText xs n name =
    (k : ℕ) (v : Vec ℕ Global) → n ≤ k → slice_get xs k ≡ Some v → IsTextOfModule name v.items → ⊥

-- text k is the first one, from number n on, that is that of the module with this name
pub record IsFirstText (xs : List (Vec ℕ Global)) (n : ℕ) (name : List ℕ) (k : ℕ) : Type 0 where
  pub from : n ≤ k
  pub text : Vec ℕ Global
  pub at : slice_get xs k ≡ Some text
  pub is : IsTextOfModule name text.items
  pub first : (j : ℕ) (v : Vec ℕ Global) → n ≤ j → j < k → slice_get xs j ≡ Some v → IsTextOfModule name v.items → ⊥
