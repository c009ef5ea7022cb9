-- Whether the rows that are left are those of the headers that are open.
use Rattle.std.specs.Prelude.{◌≡◌, ℕ, suc, ◌+◌, Bool, true, false, List, [], ◌∷◌, ◌++◌, length, reverse}
use Rattle.encodings.specs.Account.{Rows}
use Rattle.octet_account.specs.Flat.{FlatRow, a_leaf, a_wrap, a_seq, a_seqof, a_set, a_setof, an_absent, a_default}
use Rattle.octet_account.specs.Flat.{count, member_rows, AllWritten, AreRowsWithin}
use Rattle.account_text.specs.declared.stack.Open.{Open}

-- no member is left out, if the header requires each to be written
abbrev pub AsAsked : Bool → Rows → Type 0
AsAsked true ms = AllWritten ms
AsAsked false ms = Unit {0}

-- the rows are the members that are left of this header, nested at most n deep, and then those of the headers around it
pub record LeftOf (n : ℕ) (f : Open) (others : List FlatRow → Type 0) (rs : List FlatRow) : Type 0 where
  pub members : Rows
  pub rest : List FlatRow
  pub as_many : count members ≡ f.left
  pub within : AreRowsWithin n members
  pub as_asked : AsAsked f.all_written members
  pub are : rs ≡ member_rows members ++ rest
  pub after : others rest

-- the rows are the members that are left of the headers, of which the innermost is first
abbrev pub Left : ℕ → List Open → List FlatRow → Type 0
Left n [] rs = rs ≡ []
Left n (f ∷ fs) rs = LeftOf n f (Left (suc n) fs) rs

abbrev pub root : Open
root = record { left = 1; all_written = true }

-- All rows are those of an account if and only if the rows that are left are those of the open headers. Of these the
-- outermost is first.
pub record AgreesWithStack (all : List FlatRow) (fs : List Open) (rs : List FlatRow) : Type 0 where
  pub level : ℕ
  pub deep : level + length fs ≡ 401
  pub to : Left 400 (root ∷ []) all → Left level (reverse fs) rs
  pub from : Left level (reverse fs) rs → Left 400 (root ∷ []) all

-- the header that a row opens, if it opens one
abbrev pub inside_of : FlatRow → List Open
inside_of (a_leaf z) = []
inside_of (a_wrap z) = record { left = 1; all_written = true } ∷ []
inside_of (a_seq z n) = record { left = n; all_written = false } ∷ []
inside_of (a_seqof z n) = record { left = n; all_written = true } ∷ []
inside_of (a_set z n p q) = record { left = n; all_written = false } ∷ []
inside_of (a_setof z n p q) = record { left = n; all_written = true } ∷ []
inside_of an_absent = []
inside_of a_default = []

abbrev pub is_left_out : FlatRow → Bool
is_left_out (a_leaf z) = false
is_left_out an_absent = true
is_left_out a_default = true
is_left_out q = false
