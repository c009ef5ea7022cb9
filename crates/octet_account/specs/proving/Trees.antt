-- The account at the front of a list of rows, of which there is at most one.
use Rattle.std.specs.Prelude.{ℕ, zero, suc, List, [], ◌∷◌, length}
use Rattle.encodings.specs.Account.{Numbers, Account, header, Inside, leaf_row, wrap_row, seq_row, seqof_row, set_row}
use Rattle.encodings.specs.Account.{setof_row, Rows, no_row, absent_row, default_row, written}
use Rattle.octet_account.specs.Flat.{FlatRow, a_leaf, a_wrap, a_seq, a_seqof, a_set, a_setof, an_absent, a_default}

abbrev pub no_numbers : Numbers
no_numbers = record { identifier = 0; size = 0; contents = 0 }

abbrev pub nothing : Account
nothing = header no_numbers leaf_row

-- an account, and the rows after it
abbrev pub Read : Type 0
Read = Account × List FlatRow

abbrev pub ReadRows : Type 0
ReadRows = Rows × List FlatRow

abbrev pub one_more : Read → (List FlatRow → ReadRows) → ReadRows
one_more m go = (written m.0 (go m.1).0, (go m.1).1)

abbrev pub left_out : (Rows → Rows) → ReadRows → ReadRows
left_out row m = (row m.0, m.1)

abbrev pub members_by : (List FlatRow → Read) → ℕ → List FlatRow → ReadRows
members_by g zero rs = (no_row, rs)
members_by g (suc n) [] = (no_row, [])
members_by g (suc n) (an_absent ∷ rs) = left_out absent_row (members_by g n rs)
members_by g (suc n) (a_default ∷ rs) = left_out default_row (members_by g n rs)
members_by g (suc n) (a_leaf z ∷ rs) = one_more (g (a_leaf z ∷ rs)) (members_by g n)
members_by g (suc n) (a_wrap z ∷ rs) = one_more (g (a_wrap z ∷ rs)) (members_by g n)
members_by g (suc n) (a_seq z m ∷ rs) = one_more (g (a_seq z m ∷ rs)) (members_by g n)
members_by g (suc n) (a_seqof z m ∷ rs) = one_more (g (a_seqof z m ∷ rs)) (members_by g n)
members_by g (suc n) (a_set z m p q ∷ rs) = one_more (g (a_set z m p q ∷ rs)) (members_by g n)
members_by g (suc n) (a_setof z m p q ∷ rs) = one_more (g (a_setof z m p q ∷ rs)) (members_by g n)

abbrev pub with_rows : (Rows → Inside) → Numbers → ReadRows → Read
with_rows inside z m = (header z (inside m.0), m.1)

abbrev pub step : (List FlatRow → Read) → List FlatRow → Read
step g [] = (nothing, [])
step g (an_absent ∷ rs) = (nothing, rs)
step g (a_default ∷ rs) = (nothing, rs)
step g (a_leaf z ∷ rs) = (header z leaf_row, rs)
step g (a_wrap z ∷ rs) = (header z (wrap_row (g rs).0), (g rs).1)
step g (a_seq z n ∷ rs) = with_rows seq_row z (members_by g n rs)
step g (a_seqof z n ∷ rs) = with_rows seqof_row z (members_by g n rs)
step g (a_set z n p q ∷ rs) = with_rows (λ ms. set_row ms p q) z (members_by g n rs)
step g (a_setof z n p q ∷ rs) = with_rows (λ ms. setof_row ms p q) z (members_by g n rs)

-- an account of at most n levels of rows, and the rows after it
abbrev pub read : ℕ → List FlatRow → Read
read zero rs = (nothing, rs)
read (suc n) rs = step (read n) rs

-- the account with these rows
abbrev pub tree_of : List FlatRow → Account
tree_of rs = (read (length rs) rs).0
