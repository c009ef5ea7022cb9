-- All numbers in the rows of an account are within the bounds.
use Rattle.std.proofs.Common.{ℕ, zero, suc, List, [], ◌∷◌, ◌++◌, sym, subst}
use Rattle.std.specs.List.{AllByRecursion}
use Rattle.encodings.specs.Account.{Account, header, leaf_row, wrap_row, seq_row, seqof_row, set_row, setof_row, Rows, no_row, absent_row, default_row, written}
use Rattle.octet_account.specs.Flat.{FlatRow, rows_of, member_rows, IsWithin, AreRowsWithin, AreRows}
use Rattle.account_text.specs.proving.Tokens.{IsSmallRow}

both : {A : Type 0} (P : A → Type 0) (xs ys : List A) → AllByRecursion P xs → AllByRecursion P ys → AllByRecursion P (xs ++ ys)
both P [] ys h k = k
both P (x ∷ xs) ys h k = (h.0, both P xs ys h.1 k)

mutual
  rows_small : (n : ℕ) (a : Account) → IsWithin n a → AllByRecursion IsSmallRow (rows_of a)
  rows_small zero a h = absurd h
  rows_small (suc n) (header z leaf_row) h = (h.0, tt)
  rows_small (suc n) (header z (wrap_row a)) h = (h.0, rows_small n a h.1)
  rows_small (suc n) (header z (seq_row rs)) h = ((h.0, h.1.0), members_small n rs h.1.1)
  rows_small (suc n) (header z (seqof_row rs)) h = ((h.0, h.1.0), members_small n rs h.1.1)
  rows_small (suc n) (header z (set_row rs p q)) h = ((h.0, (h.1.0, (h.1.2, h.1.3))), members_small n rs h.1.1)
  rows_small (suc n) (header z (setof_row rs p q)) h = ((h.0, (h.1.0, (h.1.3, h.1.4))), members_small n rs h.1.1)

  members_small : (n : ℕ) (rs : Rows) → AreRowsWithin n rs → AllByRecursion IsSmallRow (member_rows rs)
  members_small n no_row h = tt
  members_small n (absent_row rs) h = (tt, members_small n rs h.1)
  members_small n (default_row rs) h = (tt, members_small n rs h.1)
  members_small n (written a rs) h = both IsSmallRow (rows_of a) (member_rows rs) (rows_small n a h.0) (members_small n rs h.1)

pub small : {a : Account} {rs : List FlatRow} → AreRows a rs → AllByRecursion IsSmallRow rs
small {a} h = subst (AllByRecursion IsSmallRow) (sym h.are) (rows_small 400 a h.within)
