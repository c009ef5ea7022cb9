-- A code for accounts, by which proofs show that two accounts differ. It has the rows of an account, from which the
-- account can be read again.
use Rattle.std.specs.Prelude.{◌≡◌, ℕ, zero, suc, List, [], ◌∷◌, ◌++◌, length}
use Rattle.std.proofs.Common.{refl, sym, ap, ◌∙◌, append_assoc}
use Rattle.std.proofs.lemmas.List.{append-nil}
use Rattle.std.specs.Coded.{Coded, code_by, coded_ℕ, coded_list, coded×}
use Rattle.encodings.specs.Account.{Numbers, Account, header, leaf_row, wrap_row, seq_row, seqof_row, set_row}
use Rattle.encodings.specs.Account.{setof_row, Rows, no_row, absent_row, default_row, written}
use Rattle.octet_account.specs.Flat.{FlatRow, a_leaf, a_wrap, a_seq, a_seqof, a_set, a_setof, an_absent, a_default}
use Rattle.octet_account.specs.Flat.{count, rows_of, member_rows}
use Rattle.octet_account.specs.proving.Trees.{Read, one_more, left_out, members_by, with_rows, read, tree_of}

-- ---- sums

-- a sum that computes by recursion on its first number
abbrev plus : ℕ → ℕ → ℕ
plus zero b = b
plus (suc a) b = suc (plus a b)

plus_suc : (a b : ℕ) → plus a (suc b) ≡ suc (plus a b)
plus_suc zero b = refl
plus_suc (suc a) b = ap suc (plus_suc a b)

plus_zero : (a : ℕ) → plus a zero ≡ a
plus_zero zero = refl
plus_zero (suc a) = ap suc (plus_zero a)

plus_assoc : (a b c : ℕ) → plus (plus a b) c ≡ plus a (plus b c)
plus_assoc zero b c = refl
plus_assoc (suc a) b c = ap suc (plus_assoc a b c)

plus_swap : (a b c : ℕ) → plus (plus a b) c ≡ plus b (plus a c)
plus_swap zero b c = refl
plus_swap (suc a) b c = ap suc (plus_swap a b c) ∙ sym (plus_suc b (plus a c))

plus_length : (xs ys : List FlatRow) → length (xs ++ ys) ≡ plus (length xs) (length ys)
plus_length [] ys = refl
plus_length (x ∷ xs) ys = ap suc (plus_length xs ys)

-- ---- reading rows

-- the rows of an encoded member are read first
member_first : (g : List FlatRow → Read) (n : ℕ) (a : Account) (rest : List FlatRow)
    → members_by g (suc n) (rows_of a ++ rest) ≡ one_more (g (rows_of a ++ rest)) (members_by g n)
member_first g n (header z leaf_row) rest = refl
member_first g n q rest = refl

mutual
  reads : (a : Account) (n : ℕ) (rest : List FlatRow) → read (plus (length (rows_of a)) n) (rows_of a ++ rest)
      ≡ (a, rest)
  reads (header z leaf_row) n rest = refl
  reads (header z (wrap_row a)) n rest = ap (λ m. (header z (wrap_row m.0), m.1)) (reads a n rest)
  reads (header z (seq_row rs)) n rest = ap (with_rows seq_row z) (reads_rows rs n rest)
  reads (header z (seqof_row rs)) n rest = ap (with_rows seqof_row z) (reads_rows rs n rest)
  reads (header z (set_row rs p q)) n rest = ap (with_rows (λ ms. set_row ms p q) z) (reads_rows rs n rest)
  reads (header z (setof_row rs p q)) n rest = ap (with_rows (λ ms. setof_row ms p q) z) (reads_rows rs n rest)

  reads_rows : (rs : Rows) (n : ℕ) (rest : List FlatRow)
      → members_by (read (plus (length (member_rows rs)) n)) (count rs) (member_rows rs ++ rest) ≡ (rs, rest)
  reads_rows no_row n rest = refl
  reads_rows (absent_row rs) n rest =
      ap (λ k. left_out absent_row (members_by (read k) (count rs) (member_rows rs ++ rest)))
      (sym (plus_suc (length (member_rows rs)) n))
      ∙ ap (left_out absent_row) (reads_rows rs (suc n) rest)
  reads_rows (default_row rs) n rest =
      ap (λ k. left_out default_row (members_by (read k) (count rs) (member_rows rs ++ rest)))
      (sym (plus_suc (length (member_rows rs)) n))
      ∙ ap (left_out default_row) (reads_rows rs (suc n) rest)
  reads_rows (written a rs) n rest =
      ap (λ k. members_by (read (plus k n)) (suc (count rs)) ((rows_of a ++ member_rows rs) ++ rest))
      (plus_length (rows_of a) (member_rows rs))
      ∙ ap (members_by (read (plus (plus (length (rows_of a)) (length (member_rows rs))) n)) (suc (count rs)))
      (append_assoc (rows_of a) (member_rows rs) rest)
      ∙ member_first (read (plus (plus (length (rows_of a)) (length (member_rows rs))) n)) (count rs) a
      (member_rows rs ++ rest)
      ∙ ap
      (λ m. one_more m (members_by (read (plus (plus (length (rows_of a)) (length (member_rows rs))) n))
      (count rs)))
      (ap (λ k. read k (rows_of a ++ (member_rows rs ++ rest)))
      (plus_assoc (length (rows_of a)) (length (member_rows rs)) n)
      ∙ reads a (plus (length (member_rows rs)) n) (member_rows rs ++ rest))
      ∙ ap (λ m. (written a m.0, m.1))
      (ap (λ k. members_by (read k) (count rs) (member_rows rs ++ rest))
      (plus_swap (length (rows_of a)) (length (member_rows rs)) n)
      ∙ reads_rows rs (plus (length (rows_of a)) n) rest)

pub tree_back : (a : Account) → tree_of (rows_of a) ≡ a
tree_back a =
    ap (λ m. m.0)
    (ap (λ k. read k (rows_of a)) (sym (plus_zero (length (rows_of a))))
    ∙ ap (read (plus (length (rows_of a)) zero)) (sym (append-nil (rows_of a)))
    ∙ reads a zero [])

-- ---- the code of a row

abbrev Part : Type 0
Part = (ℕ × (ℕ × ℕ)) × (ℕ × (ℕ × (List ℕ × List ℕ)))

abbrev part : Numbers → ℕ → ℕ → List ℕ → List ℕ → Part
part z kind n p q = ((z.identifier, (z.size, z.contents)), (kind, (n, (p, q))))

abbrev no_numbers : Numbers
no_numbers = record { identifier = 0; size = 0; contents = 0 }

abbrev part_of : FlatRow → Part
part_of (a_leaf z) = part z 0 0 [] []
part_of (a_wrap z) = part z 1 0 [] []
part_of (a_seq z n) = part z 2 n [] []
part_of (a_seqof z n) = part z 3 n [] []
part_of (a_set z n p q) = part z 4 n p q
part_of (a_setof z n p q) = part z 5 n p q
part_of an_absent = part no_numbers 6 0 [] []
part_of a_default = part no_numbers 7 0 [] []

abbrev row_by : Numbers → ℕ → ℕ → List ℕ → List ℕ → FlatRow
row_by z zero n p q = a_leaf z
row_by z (suc zero) n p q = a_wrap z
row_by z (suc (suc zero)) n p q = a_seq z n
row_by z (suc (suc (suc zero))) n p q = a_seqof z n
row_by z (suc (suc (suc (suc zero)))) n p q = a_set z n p q
row_by z (suc (suc (suc (suc (suc zero))))) n p q = a_setof z n p q
row_by z (suc (suc (suc (suc (suc (suc zero)))))) n p q = an_absent
row_by z (suc (suc (suc (suc (suc (suc (suc k))))))) n p q = a_default

abbrev row_of_part : Part → FlatRow
row_of_part x =
    row_by (record { identifier = x.0.0; size = x.0.1.0; contents = x.0.1.1 }) x.1.0 x.1.1.0 x.1.1.1.0 x.1.1.1.1

pub row_back : (r : FlatRow) → row_of_part (part_of r) ≡ r
row_back (a_leaf z) = refl
row_back q = refl

abbrev part_code : Coded Part
part_code =
    coded× (coded× coded_ℕ (coded× coded_ℕ coded_ℕ))
    (coded× coded_ℕ (coded× coded_ℕ (coded× (coded_list coded_ℕ) (coded_list coded_ℕ))))

abbrev row_code : Coded FlatRow
row_code = code_by Part part_code part_of row_of_part row_back

abbrev pub account_code : Coded Account
account_code = code_by (List FlatRow) (coded_list row_code) rows_of tree_of tree_back
