-- The form in which an account is read and written: a list of rows, the root first, each before the rows of its
-- members. The headers in it are those of X.690, clause 8.1.
use Rattle.std.specs.Prelude.{◌≡◌, ℕ, zero, suc, ◌≤◌, List, [], ◌∷◌, ◌++◌}
use Rattle.std.specs.List.{AllByRecursion}
use Rattle.encodings.specs.Account.{Numbers, Account, header, Inside, leaf_row, wrap_row, seq_row, seqof_row, set_row}
use Rattle.encodings.specs.Account.{setof_row, Rows, no_row, absent_row, default_row, written}

-- a row of an account, with the numbers of a header, how many members follow, and in SET and SET OF their places and
-- the inverse of these
pub data FlatRow : Type 0 where
  a_leaf : Numbers → FlatRow
  a_wrap : Numbers → FlatRow
  a_seq : Numbers → (members : ℕ) → FlatRow
  a_seqof : Numbers → (members : ℕ) → FlatRow
  a_set : Numbers → (members : ℕ) → (places inverse : List ℕ) → FlatRow
  a_setof : Numbers → (members : ℕ) → (places inverse : List ℕ) → FlatRow
  an_absent : FlatRow
  a_default : FlatRow

-- the number of members, those that are left out included
abbrev pub count : Rows → ℕ
count no_row = 0
count (absent_row rs) = suc (count rs)
count (default_row rs) = suc (count rs)
count (written a rs) = suc (count rs)

abbrev mutual
  -- the rows of an account, from the root down, each before the rows of its members
  pub rows_of : Account → List FlatRow
  rows_of (header z leaf_row) = a_leaf z ∷ []
  rows_of (header z (wrap_row a)) = a_wrap z ∷ rows_of a
  rows_of (header z (seq_row rs)) = a_seq z (count rs) ∷ member_rows rs
  rows_of (header z (seqof_row rs)) = a_seqof z (count rs) ∷ member_rows rs
  rows_of (header z (set_row rs p q)) = a_set z (count rs) p q ∷ member_rows rs
  rows_of (header z (setof_row rs p q)) = a_setof z (count rs) p q ∷ member_rows rs

  -- the rows of members, in order, each before the rows of its own members
  pub member_rows : Rows → List FlatRow
  member_rows no_row = []
  member_rows (absent_row rs) = an_absent ∷ member_rows rs
  member_rows (default_row rs) = a_default ∷ member_rows rs
  member_rows (written a rs) = rows_of a ++ member_rows rs

-- a number in a row is at most 16,777,216, the most octets that a message has (own rule)
abbrev pub IsSmall : ℕ → Type 0
IsSmall n = n ≤ 16777216

-- the three numbers of a header are each at most 16,777,216 (own rule)
pub record AreSmall (z : Numbers) : Type 0 where
  pub identifier_small : IsSmall z.identifier
  pub size_small : IsSmall z.size
  pub contents_small : IsSmall z.contents

-- no member is left out, as in a SEQUENCE OF or SET OF
abbrev pub AllWritten : Rows → Type 0
AllWritten no_row = Unit {0}
AllWritten (absent_row rs) = ⊥
AllWritten (default_row rs) = ⊥
AllWritten (written a rs) = AllWritten rs

abbrev mutual
  -- the rows of the account are nested at most n deep, all numbers in them are small, and the members of a SEQUENCE OF
  -- or SET OF are written
  pub IsWithin : ℕ → Account → Type 0
  IsWithin zero a = ⊥
  IsWithin (suc n) (header z i) = AreSmall z × IsInsideWithin n i

  -- the rows within a header are nested at most n deep, all numbers in them are small, and the members of a SEQUENCE OF
  -- or SET OF are written
  pub IsInsideWithin : ℕ → Inside → Type 0
  IsInsideWithin n leaf_row = Unit {0}
  IsInsideWithin n (wrap_row a) = IsWithin n a
  IsInsideWithin n (seq_row rs) = IsSmall (count rs) × AreRowsWithin n rs
  IsInsideWithin n (seqof_row rs) = IsSmall (count rs) × AreRowsWithin n rs × AllWritten rs
  IsInsideWithin n (set_row rs p q) =
      IsSmall (count rs) × AreRowsWithin n rs × AllByRecursion IsSmall p × AllByRecursion IsSmall q
  IsInsideWithin n (setof_row rs p q) =
      IsSmall (count rs) × AreRowsWithin n rs × AllWritten rs × AllByRecursion IsSmall p × AllByRecursion IsSmall q

  -- the rows of members, also of those that are left out, are nested at most n deep, and all numbers in them are small
  pub AreRowsWithin : ℕ → Rows → Type 0
  AreRowsWithin n no_row = Unit {0}
  AreRowsWithin n (absent_row rs) = (1 ≤ n) × AreRowsWithin n rs
  AreRowsWithin n (default_row rs) = (1 ≤ n) × AreRowsWithin n rs
  AreRowsWithin n (written a rs) = IsWithin n a × AreRowsWithin n rs

-- the rows are those of account a, whose numbers are small, and whose rows are nested at most 400 deep (own rule)
pub record AreRows (a : Account) (rs : List FlatRow) : Type 0 where
  pub within : IsWithin 400 a
  pub are : rs ≡ rows_of a
